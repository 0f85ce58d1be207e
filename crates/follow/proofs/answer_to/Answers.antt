-- The call by the command of the word.
use Rattle.std.proofs.Common.{refl, rules}
use Rattle.naming.specs.Turns.{call_of}
use Rattle.naming.specs.Turns.Call.{named, dropped, returned}
use Rattle.follow.proofs.answer_to.Goals as goal

pub returns-in-Some-Name : goal.returns-in-Some-Name
unfolding call_of
returns-in-Some-Name c =
    let commands = c.from_word.ensures in
    record {
      call = named c.args.name;
      answer = c.name.ensures;
      names = λ _. refl;
      drops = λ e. absurd (search (rules, commands.drops.1 e, c.in-Some-Name.is, c.in-Some-Name.field-0-is));
      returns = λ e. absurd (search (rules, commands.returns.1 e, c.in-Some-Name.is, c.in-Some-Name.field-0-is));
    }

pub returns-in-Some-Drop : goal.returns-in-Some-Drop
unfolding call_of
returns-in-Some-Drop c =
    let commands = c.from_word.ensures in
    record {
      call = dropped c.args.name;
      answer = c.drop_name.ensures;
      names = λ e. absurd (search (rules, commands.names.1 e, c.in-Some-Drop.is, c.in-Some-Drop.field-0-is));
      drops = λ _. refl;
      returns = λ e. absurd (search (rules, commands.returns.1 e, c.in-Some-Drop.is, c.in-Some-Drop.field-0-is));
    }

pub returns-in-Some-Return : goal.returns-in-Some-Return
unfolding call_of
returns-in-Some-Return c =
    let commands = c.from_word.ensures in
    record {
      call = returned c.args.name;
      answer = c.return_to.ensures;
      names = λ e. absurd (search (rules, commands.names.1 e, c.in-Some-Return.is, c.in-Some-Return.field-0-is));
      drops = λ e. absurd (search (rules, commands.drops.1 e, c.in-Some-Return.is, c.in-Some-Return.field-0-is));
      returns = λ _. refl;
    }

pub returns-in-Some-Log : goal.returns-in-Some-Log
unfolding call_of
returns-in-Some-Log c =
    let commands = c.from_word.ensures in
    record {
      call = returned c.args.name;
      answer = c.return_to-in-Some-Log.ensures;
      names = λ e. absurd (search (rules, commands.names.1 e, c.in-Some-Log.is, c.in-Some-Log.field-0-is));
      drops = λ e. absurd (search (rules, commands.drops.1 e, c.in-Some-Log.is, c.in-Some-Log.field-0-is));
      returns = λ _. refl;
    }

pub returns-in-None : goal.returns-in-None
unfolding call_of
returns-in-None c =
    let commands = c.from_word.ensures in
    record {
      call = returned c.args.name;
      answer = c.return_to-in-None.ensures;
      names = λ e. absurd (search (rules, commands.names.1 e, c.in-None.is));
      drops = λ e. absurd (search (rules, commands.drops.1 e, c.in-None.is));
      returns = λ _. refl;
    }
