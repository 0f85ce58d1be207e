-- Each cause is one of those that are told.
use Rattle.std.proofs.Common.{refl, inl, inr}
use Rattle.output.specs.Files.{missing, forbidden, directory}
use Rattle.console.proofs.unreadable.Goals as goal

pub returns-in-Some-eq2 : goal.returns-in-Some-eq2
returns-in-Some-eq2 c = record { cause = missing; told = inl refl; text_is = c.unreadable.ensures }

pub returns-in-Some-eq13 : goal.returns-in-Some-eq13
returns-in-Some-eq13 c = record { cause = forbidden; told = inr (inl refl); text_is = c.unreadable-in-Some-eq13.ensures }

pub returns-in-Some-eq21 : goal.returns-in-Some-eq21
returns-in-Some-eq21 c = record { cause = directory; told = inr (inr (inl refl)); text_is = c.unreadable-in-Some-eq21.ensures }
