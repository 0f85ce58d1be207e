-- The text of a planner's program is determined where the planner's promise decides answer and marks. Assumes nothing.
use Prim.Native.Nat.{ℕ}
use mathlib.Core.Path.{◌≡◌, refl, sym, ◌∙◌}
use mathlib.Core.List.{List}
use Rattle.refusals.specs.declared.Answer.{Answer}
use Rattle.output.specs.Texts.{blank_marks, text_of, Holds, PlanPrints}
use Rattle.lines.specs.declared.Text.{Text}

-- texts that are held are the same where what they hold is
pub holds_once : {a b : List ℕ} {r q : Text} → a ≡ b → Holds a r → Holds b q → text_of r ≡ text_of q
holds_once e f g = f.bytes ∙ (e ∙ sym g.bytes)

pub prints_once : {Promise : (before after : List ℕ) → Answer → Type 0} {word : List ℕ} {n : ℕ} {r q : Text}
    → ((a b : List ℕ) (x y : Answer) → Promise blank_marks a x → Promise blank_marks b y → (x ≡ y) × (a ≡ b))
    → PlanPrints Promise word n r → PlanPrints Promise word n q → text_of r ≡ text_of q
prints_once {Promise} {word} {n} once f g =
    let same = once f.marks g.marks f.answer g.answer f.promise g.promise in
    holds_once (rw (same.0, same.1) refl) f.text g.text
