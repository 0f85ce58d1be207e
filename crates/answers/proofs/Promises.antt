-- The plan's promise, one law for each answer. The search's least time is none just where every allowed setting is too slow, and below that its marks are the
-- plan. A table that costs the same as a job's chain has the job's plan. Assumes nothing.
use Prim.Native.Nat.{ℕ, ◌-◌, ◌≤◌, ◌<◌}
use mathlib.Core.Path.{◌≡◌, refl, sym, ◌∙◌}
use mathlib.Core.List.{List, ◌++◌}
use native.Mathlib.Omega.{arith}
use lib.ListN.{length, take, drop}
use lib.Seq.{get_or-take}
use Rattle.units.specs.Limits.{none}
use Rattle.refusals.specs.Numbers
use Rattle.refusals.specs.Answers.{refused, accepted}
use Rattle.refusals.specs.declared.Answer.{Answer}
use Rattle.chain.specs.Chain.{Chain}
use Rattle.chain.specs.Time.{Marks}
use Rattle.chain.specs.Plan.{Allowed, IsPlan}
use Rattle.chain.specs.Working.Same.{SameAllowed}
use Rattle.chain.specs.Working.Search.{Rising, least_d, plan_marks}
use Rattle.chain.specs.Working.Walk.{PlannedMarks}
use Rattle.chain.proofs.Agree.{plan_agree}
use Rattle.chain.proofs.Same.{D_same, allowed_same, same_sym, plan_same}
use Rattle.chain.proofs.Theorems.{plan_is_least, too_slow_exactly}
use Rattle.marks.specs.Marks.{marks_of}
use Rattle.marks.proofs.Stretches.{mark_at}
use Rattle.answers.specs.Promise.{AllSlow, Planned, PlansChain, PlansChecked}
use Rattle.answers.proofs.Buffers.{written_front, written_rest, written_length}

-- whether every allowed setting is too slow, by the search's least time
module _ (c : Chain) (rises : Rising c) (n : ℕ) (h : 0 < n) where
  pub slow_all : none ≤ least_d c none n → AllSlow c n
  slow_all l g s = (too_slow_exactly c rises none n h).0 l g s

  pub slow_none : least_d c none n < none → AllSlow c n → ⊥
  slow_none l a = omega (arith, (too_slow_exactly c rises none n h).1 (λ g s. a g s))

  -- 'too slow' where every allowed setting is
  pub slow_answer : (before : List ℕ) → none ≤ least_d c none n → PlansChain c n before before (refused Numbers.too_slow)
  slow_answer before l =
      record {
        slow = λ _. record { numbered = refl; no_time = refl; untouched = refl };
        planned = λ z. absurd (z (slow_all l));
      }

  -- the plan otherwise
  pub plan_answer : (before after l : List ℕ) (least : ℕ) → n ≤ length before → PlannedMarks c none n l → after ≡ take n l ++ drop n before
      → least ≡ least_d c none n → least < none → PlansChain c n before after (accepted least)
  plan_answer before after l least room marks e is k =
      record {
        slow = λ a. absurd (slow_none (omega arith) a);
        planned =
            λ _.
            record {
              numbered = refl;
              in_time = omega arith;
              plan = planned;
              later = rw e (written_rest l before n long room);
              long = rw e (written_length l before n long room);
            };
      }
    where
      long : n ≤ length l
      long = marks.long

      front : take n after ≡ take n l
      front = rw e (written_front l before n long room)

      same : (j : ℕ) → 0 < j → j ≤ n → plan_marks c none n j ≡ marks_of (take n after) j
      same j p q =
          sym (marks.marks j p q) ∙ sym (get_or-take n l (j - 1) 0 (omega arith)) ∙ rw front (sym (mark_at (take n l) j p))

      planned : IsPlan c n (marks_of (take n after)) least
      planned =
          plan_agree (plan_marks c none n) (marks_of (take n after)) c n least h same
          (rw is (plan_is_least c rises none n h (omega arith)))

-- chains that cost the same over the allowed stretches have the same answer
pub plans_same : (n : ℕ) (c c' : Chain) → SameAllowed n c c' → 0 < n → (before after : List ℕ) (r : Answer) → PlansChain c n before after r → PlansChain c' n before after r
plans_same n c c' same h before after r p =
    record {
      slow = λ a. p.slow (slow a);
      planned = λ a. again (p.planned (λ b. a (fast b)));
    }
  where
    back : (g : Marks) → Allowed c' n g → Allowed c n g
    back g s = allowed_same n c' c (same_sym n c c' same) g s

    slow : AllSlow c' n → AllSlow c n
    slow a g s = rw (D_same n c c' same g s h) (a g (allowed_same n c c' same g s))

    fast : AllSlow c n → AllSlow c' n
    fast a g s = rw (← (D_same n c c' same g (back g s) h)) (a g (back g s))

    again : Planned c n before after r → Planned c' n before after r
    again q =
        record {
          numbered = q.numbered;
          in_time = q.in_time;
          plan = plan_same n c c' same h _ _ q.plan;
          later = q.later;
          long = q.long;
        }

-- one law for each answer of a checked plan
module _ (refusal : ℕ) (c : Chain) (n : ℕ) (before : List ℕ) where
  pub checked_answer : 0 < refusal → PlansChecked refusal c n before before (refused refusal)
  checked_answer h =
      record {
        checked = λ _. record { numbered = refl; no_time = refl; untouched = refl };
        short = λ e _. absurd (omega arith);
        plans = λ e _. absurd (omega arith);
      }

  pub short_answer : refusal ≡ 0 → length before < n → PlansChecked refusal c n before before (refused Numbers.short_buffer)
  short_answer z h =
      record {
        checked = λ p. absurd (omega arith);
        short = λ _ _. record { numbered = refl; no_time = refl; untouched = refl };
        plans = λ _ l. absurd (omega arith);
      }

  pub chain_answer : (after : List ℕ) (r : Answer) → refusal ≡ 0 → n ≤ length before → PlansChain c n before after r → PlansChecked refusal c n before after r
  chain_answer after r z h p =
      record {
        checked = λ k. absurd (omega arith);
        short = λ _ l. absurd (omega arith);
        plans = λ _ _. p;
      }
