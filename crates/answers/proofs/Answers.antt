-- What follows from a planner's promise, whatever its checks and its chain: the answer is determined byte for byte, and what each number says. Assumes nothing.
use Prim.Native.Nat.{ℕ, suc, ◌≤◌, ◌<◌}
use mathlib.Core.Path.{◌≡◌, refl, sym, ◌∙◌}
use mathlib.Core.List.{List}
use mathlib.Core.Logic.{◌⊎◌, inl, inr, ◌≢◌}
use native.Mathlib.Decide.{dec_le}
use native.Mathlib.Nat.{eq-zero-or-pos}
use native.Mathlib.Omega.{arith}
use lib.ListN.{length, take, drop, take-append-drop}
use lib.Seq.{ext_get_or, length-take-le}
use Rattle.units.specs.Limits.{none}
use Rattle.refusals.specs.Numbers
use Rattle.refusals.specs.Answers.{refused, accepted}
use Rattle.refusals.specs.declared.Answer.{Answer}
use Rattle.refusals.proofs.Answers.{answer_same}
use Rattle.chain.specs.Chain.{Chain}
use Rattle.chain.specs.Working.Search.{Rising, least_d}
use Rattle.chain.proofs.Theorems.{plan_is_least, plan_is_determined}
use Rattle.marks.specs.Marks.{marks_of}
use Rattle.answers.specs.Promise.{AllSlow, Refused, Planned, PlansChain, PlansChecked, Free, ResultSays, SlowSays, AnswerSays}
use Rattle.answers.proofs.Promises.{slow_all, slow_none}

-- whether every allowed setting is too slow is decided by the search's least time
slow_decided : (c : Chain) → Rising c → (n : ℕ) → 0 < n → Dec (AllSlow c n)
slow_decided c rises n h = go (dec_le none (least_d c none n))
  where
    go : Dec (none ≤ least_d c none n) → Dec (AllSlow c n)
    go (yes l) = yes (slow_all c rises n h l)
    go (no l) = no (slow_none c rises n h (omega arith))

-- what a refusal comes from: its number is that of the checks, 11 or 13
data Cause (refusal : ℕ) (c : Chain) (n : ℕ) (before : List ℕ) (number : ℕ) : Type 0 where
  of_checks : number ≡ refusal → Cause refusal c n before number
  of_buffer : number ≡ Numbers.short_buffer → Cause refusal c n before number
  of_time : SlowSays refusal c n before → Cause refusal c n before number

-- checks, a chain and a buffer alone decide which case of the promise it is: one refusal, or the plan
module _ (refusal : ℕ) (c : Chain) (rises : Rising c) (n : ℕ) (some : refusal ≡ 0 → 0 < n) (before : List ℕ) (P : Type 0)
    (refused : (number : ℕ) → 0 < number → Cause refusal c n before number
    → ((after : List ℕ) (r : Answer) → PlansChecked refusal c n before after r → Refused number before after r) → P)
    (planned : Free refusal n before → ((after : List ℕ) (r : Answer) → PlansChecked refusal c n before after r → Planned c n before after r) → P) where
  by_speed : Free refusal n before → Dec (AllSlow c n) → P
  by_speed free (yes a) =
      refused Numbers.too_slow (omega arith) (of_time (record { free = free; all_slow = a })) (λ after r p. (p.plans free.clear free.room).slow a)
  by_speed free (no a) = planned free (λ after r p. (p.plans free.clear free.room).planned a)

  by_room : refusal ≡ 0 → Dec (n ≤ length before) → P
  by_room z (yes h) = by_speed (record { clear = z; room = h }) (slow_decided c rises n (some z))
  by_room z (no h) = refused Numbers.short_buffer (omega arith) (of_buffer refl) (λ after r p. p.short z (omega arith))

  by_checks : (refusal ≡ 0) ⊎ (0 < refusal) → P
  by_checks (inl z) = by_room z (dec_le n (length before))
  by_checks (inr h) = refused refusal h (of_checks refl) (λ after r p. p.checked h)

  by_case : P
  by_case = by_checks (eq-zero-or-pos refusal)

refused_once : (number : ℕ) (before a b : List ℕ) (r q : Answer) → Refused number before a r → Refused number before b q → (r ≡ q) × (a ≡ b)
refused_once number before a b r q f g =
    (answer_same r q (f.numbered ∙ sym g.numbered) (f.no_time ∙ sym g.no_time), f.untouched ∙ sym g.untouched)

-- two lists of n marks that are the same marks are the same list
list_same : (n : ℕ) (a b : List ℕ) → length a ≡ n → length b ≡ n → ((v : ℕ) → 0 < v → v ≤ n → marks_of a v ≡ marks_of b v) → a ≡ b
list_same n a b h k same = ext_get_or 0 a b (h ∙ sym k) (λ i l. same (suc i) (omega arith) (omega arith))

module _ (c : Chain) (n : ℕ) (before : List ℕ) (room : n ≤ length before) where
  pub front_length : (after : List ℕ) (r : Answer) → Planned c n before after r → length (take n after) ≡ n
  front_length after r p = length-take-le n after (omega (arith, p.long))

  planned_once : (a b : List ℕ) (r q : Answer) → Planned c n before a r → Planned c n before b q → (r ≡ q) × (a ≡ b)
  planned_once a b r q f g =
      (answer_same r q (f.numbered ∙ sym g.numbered) same.0, sym (take-append-drop n a) ∙ rw (front, rest) (take-append-drop n b))
    where
      same : (r.time ≡ q.time) × ((v : ℕ) → 0 < v → v ≤ n → marks_of (take n a) v ≡ marks_of (take n b) v)
      same = plan_is_determined c n (marks_of (take n a)) (marks_of (take n b)) r.time q.time f.plan g.plan

      front : take n a ≡ take n b
      front = list_same n (take n a) (take n b) (front_length a r f) (front_length b q g) same.1

      rest : drop n a ≡ drop n b
      rest = f.later ∙ sym g.later

-- checks, a chain and a lent buffer have one answer and one buffer afterwards, byte for byte
pub checked_once : (refusal : ℕ) (c : Chain) → Rising c → (n : ℕ) → (refusal ≡ 0 → 0 < n) → (before a b : List ℕ) (r q : Answer)
    → PlansChecked refusal c n before a r → PlansChecked refusal c n before b q → (r ≡ q) × (a ≡ b)
checked_once refusal c rises n some before a b r q f g =
    by_case refusal c rises n some before ((r ≡ q) × (a ≡ b))
    (λ number _ _ is. refused_once number before a b r q (is a r f) (is b q g))
    (λ free is. planned_once c n before free.room a b r q (is a r f) (is b q g))

-- a result
pub checked_result : (refusal : ℕ) (c : Chain) → Rising c → (n : ℕ) → (refusal ≡ 0 → 0 < n) → (before after : List ℕ) (r : Answer)
    → PlansChecked refusal c n before after r → r.number ≡ Numbers.accepted → ResultSays refusal c n before after r
checked_result refusal c rises n some before after r p e =
    by_case refusal c rises n some before (ResultSays refusal c n before after r)
    (λ number h _ is. absurd (omega (arith, (is after r p).numbered)))
    (λ free is. record { free = free; planned = is after r p })

-- an answer with a number gives time 0 and writes no byte
pub checked_refused : (refusal : ℕ) (c : Chain) → Rising c → (n : ℕ) → (refusal ≡ 0 → 0 < n) → (before after : List ℕ) (r : Answer)
    → PlansChecked refusal c n before after r → 0 < r.number → Refused r.number before after r
checked_refused refusal c rises n some before after r p h =
    by_case refusal c rises n some before (Refused r.number before after r)
    (λ number _ _ is. let f = is after r p in record { numbered = refl; no_time = f.no_time; untouched = f.untouched })
    (λ _ is. absurd (omega (arith, (is after r p).numbered)))

-- 13, where no check has that number
pub checked_slow : (refusal : ℕ) (c : Chain) → Rising c → (n : ℕ) → (refusal ≡ 0 → 0 < n) → (before after : List ℕ) (r : Answer)
    → PlansChecked refusal c n before after r → refusal ≢ Numbers.too_slow → r.number ≡ Numbers.too_slow → SlowSays refusal c n before
checked_slow refusal c rises n some before after r p other e =
    by_case refusal c rises n some before (SlowSays refusal c n before)
    (λ number _ cause is. go cause (is after r p).numbered)
    (λ _ is. absurd (omega (arith, (is after r p).numbered)))
  where
    go : {number : ℕ} → Cause refusal c n before number → r.number ≡ number → SlowSays refusal c n before
    go (of_checks q) k = absurd (other (sym q ∙ sym k ∙ e))
    go (of_buffer q) k = absurd (omega (arith, q, k))
    go (of_time slow) k = slow

-- the answer from the search's least time, where nothing else stands against a result
module _ (refusal : ℕ) (c : Chain) (rises : Rising c) (n : ℕ) (some : refusal ≡ 0 → 0 < n) (before after : List ℕ) (r : Answer)
    (p : PlansChecked refusal c n before after r) (free : Free refusal n before) where
  pub plan_computed : least_d c none n < none → r ≡ accepted (least_d c none n)
  plan_computed l =
      let h : 0 < n = some free.clear in
      let q : Planned c n before after r = (p.plans free.clear free.room).planned (slow_none c rises n h l) in
      answer_same r (accepted (least_d c none n)) q.numbered (plan_is_determined c n _ _ _ _ q.plan (plan_is_least c rises none n h l)).0

  pub slow_computed : none ≤ least_d c none n → r ≡ refused Numbers.too_slow
  slow_computed l =
      let q = (p.plans free.clear free.room).slow (slow_all c rises n (some free.clear) l) in
      answer_same r (refused Numbers.too_slow) q.numbered q.no_time

-- the promise read from the answer
pub chain_says : (c : Chain) → Rising c → (n : ℕ) → 0 < n → (before after : List ℕ) (r : Answer) → PlansChain c n before after r → AnswerSays c n before after r
chain_says c rises n h before after r p = go (slow_decided c rises n h)
  where
    go : Dec (AllSlow c n) → AnswerSays c n before after r
    go (yes a) =
        let q = p.slow a in
        record {
          slow = (λ _. a, λ _. q.numbered);
          some_plan = (λ e. absurd (omega (arith, q.numbered)), λ has. absurd (omega (arith, a has.marks has.plan.allowed, has.plan.time, has.in_time)));
          planned = λ e. absurd (omega (arith, q.numbered));
          no_other = inl q.numbered;
        }
    go (no a) =
        let q = p.planned a in
        record {
          slow = (λ e. absurd (omega (arith, q.numbered)), λ b. absurd (a b));
          some_plan = (
            λ _. record { marks = marks_of (take n after); time = r.time; plan = q.plan; in_time = q.in_time },
            λ _. q.numbered,
          );
          planned = λ _. q;
          no_other = inr q.numbered;
        }
