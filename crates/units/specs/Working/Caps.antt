-- How far growth sums may go, in whole units: loose caps of G and H, which leave every product of a time within 64 bits.
use Rattle.std.specs.Prelude.{ℕ}

abbrev pub growth_cap : ℕ
growth_cap = 55

abbrev pub mean_growth_cap : ℕ
mean_growth_cap = 14
