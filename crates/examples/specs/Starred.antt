-- The starred examples of document 01, growths and times worked out anew by request 103, and the team's own for requests 105, 106 and 109: one list of a number that the
-- definitions give and the number expected, and one test over it.
use Rattle.std.specs.Prelude.{ℕ, ◌+◌, ◌^◌, Bool, true, ◌&&◌, List, [], ◌∷◌, ◌++◌, eqb}
use Rattle.growth.specs.Growth.{G, H}
use Rattle.sheet.specs.Reading.{job_of}
use Rattle.costs.specs.Energy.{energy_of}
use Rattle.costs.specs.declared.Powers.{Powers}
use Rattle.pricing.specs.Price.{price_of}
use Rattle.planning.specs.Energy.{energy_refusal}
use Rattle.starting.specs.Start.{start_of}
use Rattle.history.specs.Events.{steps}
use Rattle.state.specs.declared.Sums.{Sums}
use Rattle.names.specs.Names.{no_names}
use Rattle.naming.specs.Turns.{Call, in_turn}
use Rattle.naming.specs.Turns.Call.{logged, named, dropped, returned}
use Rattle.naming.specs.declared.NamedStepped.{NamedStepped}
use Rattle.events.specs.declared.Event.TheVariants.{Done, Passed, Failed}

-- A's header with the pairs (a, b), (c, d): bytes 1, 2, 2, 0, then four fields below 2^8
unfoldable pub header_a : (a b c d : ℕ) → List ℕ
header_a a b c d = 1 ∷ 2 ∷ 2 ∷ 0 ∷ a ∷ 0 ∷ 0 ∷ 0 ∷ b ∷ 0 ∷ 0 ∷ 0 ∷ c ∷ 0 ∷ 0 ∷ 0 ∷ d ∷ 0 ∷ 0 ∷ 0 ∷ []

-- rates 0 and 2^31; C_D 5000, C_M 1000, V 928, R_D 4000, R_M 1000
unfoldable pub platform_a : List ℕ
platform_a =
    1 ∷ 0 ∷ 0 ∷ 0 ∷ 0 ∷ 0 ∷ 0 ∷ 0 ∷ 128 ∷ 136 ∷ 19 ∷ 0 ∷ 0 ∷ 232 ∷ 3 ∷ 0 ∷ 0 ∷ 160 ∷ 3 ∷ 0 ∷ 0 ∷ 160 ∷ 15 ∷ 0 ∷ 0 ∷
    232 ∷ 3 ∷ 0 ∷ 0 ∷ []

-- weights 131072, 131072
unfoldable pub weights_a : List ℕ
weights_a = 2 ∷ 0 ∷ 0 ∷ 2 ∷ 0 ∷ 0 ∷ 0 ∷ 2 ∷ 0 ∷ []

-- sheet A: pairs (20, 29), (49, 9)
unfoldable pub sheet_a : List ℕ
sheet_a = header_a 20 29 49 9 ++ (platform_a ++ weights_a)

-- A's sections in the other order; then A with one byte before, between or after its sections
unfoldable pub weights_first : List ℕ
weights_first = header_a 20 9 29 29 ++ (weights_a ++ platform_a)

unfoldable pub stray_before : List ℕ
stray_before = header_a 21 29 50 9 ++ (0 ∷ platform_a ++ weights_a)

unfoldable pub stray_between : List ℕ
stray_between = header_a 20 29 50 9 ++ (platform_a ++ (0 ∷ weights_a))

unfoldable pub stray_after : List ℕ
stray_after = sheet_a ++ (0 ∷ [])

-- a byte between two platforms, for which 6 holds too; one after sections that overlap, for which 5 holds too
unfoldable pub stray_kinds : List ℕ
stray_kinds = header_a 20 29 50 29 ++ (platform_a ++ (0 ∷ platform_a))

unfoldable pub stray_overlap : List ℕ
stray_overlap = header_a 20 29 48 9 ++ (platform_a ++ weights_a)

-- one task of 16, rates 2^20 and 0, V 3, C_M 4, C_D 6
unfoldable pub sheet_one : List ℕ
sheet_one =
    1 ∷ 1 ∷ 2 ∷ 0 ∷ 20 ∷ 0 ∷ 0 ∷ 0 ∷ 29 ∷ 0 ∷ 0 ∷ 0 ∷ 49 ∷ 0 ∷ 0 ∷ 0 ∷ 5 ∷ 0 ∷ 0 ∷ 0 ∷ 1 ∷ 0 ∷ 0 ∷ 16 ∷ 0 ∷
    0 ∷ 0 ∷ 0 ∷ 0 ∷ 6 ∷ 0 ∷ 0 ∷ 0 ∷ 4 ∷ 0 ∷ 0 ∷ 0 ∷ 3 ∷ 0 ∷ 0 ∷ 0 ∷ 0 ∷ 0 ∷ 0 ∷ 0 ∷ 0 ∷ 0 ∷ 0 ∷ 0 ∷ 2 ∷ 16 ∷
    0 ∷ 0 ∷ 0 ∷ []

-- four tasks of 1048583, 500009, 700001 and 900007, rates 2^26 and 2^28; C_D 300000, C_M 60000, V 9000, R_D 200000, R_M 70000
unfoldable pub sheet_b : List ℕ
sheet_b =
    1 ∷ 4 ∷ 2 ∷ 0 ∷ 20 ∷ 0 ∷ 0 ∷ 0 ∷ 29 ∷ 0 ∷ 0 ∷ 0 ∷ 49 ∷ 0 ∷ 0 ∷ 0 ∷ 17 ∷ 0 ∷ 0 ∷ 0 ∷ 1 ∷ 0 ∷ 0 ∷ 0 ∷ 4 ∷
    0 ∷ 0 ∷ 0 ∷ 16 ∷ 224 ∷ 147 ∷ 4 ∷ 0 ∷ 96 ∷ 234 ∷ 0 ∷ 0 ∷ 40 ∷ 35 ∷ 0 ∷ 0 ∷ 64 ∷ 13 ∷ 3 ∷ 0 ∷ 112 ∷ 17 ∷ 1 ∷ 0 ∷ 2 ∷
    7 ∷ 0 ∷ 16 ∷ 0 ∷ 41 ∷ 161 ∷ 7 ∷ 0 ∷ 97 ∷ 174 ∷ 10 ∷ 0 ∷ 167 ∷ 187 ∷ 13 ∷ 0 ∷ []

-- A with C_D 2^26 and `more`
unfoldable pub dear_a : ℕ → List ℕ
dear_a more =
    header_a 20 29 49 9
    ++ (1 ∷ 0 ∷ 0 ∷ 0 ∷ 0 ∷ 0 ∷ 0 ∷ 0 ∷ 128 ∷ more ∷ 0 ∷ 0 ∷ 4 ∷ 232 ∷ 3 ∷ 0 ∷ 0 ∷ 160 ∷ 3 ∷ 0 ∷ 0 ∷ 160 ∷ 15 ∷ 0 ∷ 0 ∷
    232 ∷ 3 ∷ 0 ∷ 0 ∷ weights_a)

-- two powers
abbrev pub powers : ℕ → ℕ → Powers
powers computing saving = record { computing = computing; saving = saving }

-- the energy of marks under a sheet
unfoldable pub energy_under : Powers → List ℕ → List ℕ → ℕ
energy_under p sheet marks = energy_of p (job_of sheet) marks

-- the time of marks under a sheet
unfoldable pub time_under : List ℕ → List ℕ → ℕ
time_under sheet marks = (price_of sheet marks).time

-- and the number of its refusal
unfoldable pub number_under : List ℕ → List ℕ → ℕ
number_under sheet marks = (price_of sheet marks).number

-- the run of A under 23 through Done, Passed, Done, Failed, Done, Passed
unfoldable pub run_of_a : Sums
run_of_a =
    (steps (start_of sheet_a (2 ∷ 3 ∷ [])).run (Done ∷ Passed ∷ Done ∷ Failed ∷ Done ∷ Passed ∷ [])).run.place.sums

-- the same run with names, the team's own for request 109: Done, Passed, then 7 is named; after Done, Failed and Done, Passed it is finished and 8 is named
unfoldable pub named_of_a : List Call → NamedStepped
named_of_a calls =
    in_turn (record { run = (start_of sheet_a (2 ∷ 3 ∷ [])).run; names = no_names })
    (logged (1 ∷ 0 ∷ 0 ∷ 0 ∷ 0 ∷ 2 ∷ 0 ∷ 0 ∷ 0 ∷ 0 ∷ [])
    ∷ named 7
    ∷ logged (1 ∷ 0 ∷ 0 ∷ 0 ∷ 0 ∷ 3 ∷ 0 ∷ 0 ∷ 0 ∷ 0 ∷ 1 ∷ 0 ∷ 0 ∷ 0 ∷ 0 ∷ 2 ∷ 0 ∷ 0 ∷ 0 ∷ 0 ∷ [])
    ∷ named 8
    ∷ calls)

pub record Example : Type 0 where
  -- what the definitions give
  pub given : ℕ
  -- what document 01 prints, or a request makes of it
  pub expected : ℕ

abbrev example : ℕ → ℕ → Example
example given expected = record { given = given; expected = expected }

unfoldable pub starred : List Example
starred =
    example (G 0) (2 ^ 24)
    ∷ example (H 0) (2 ^ 24)
    ∷ example (G 1) (2 ^ 24 + 2)
    ∷ example (H 1) (2 ^ 24 + 1)
    ∷ example (G 2) (2 ^ 24 + 3)
    ∷ example (G (2 ^ 24)) 45605202
    ∷ example (G (2 ^ 25)) 123967791
    ∷ example (time_under sheet_a (0 ∷ 3 ∷ [])) 1949854
    ∷ example (time_under sheet_a (1 ∷ 3 ∷ [])) 1340172
    ∷ example (time_under sheet_a (2 ∷ 3 ∷ [])) 726347
    ∷ example (time_under sheet_a (3 ∷ 3 ∷ [])) 731347
    ∷ example (time_under sheet_one (3 ∷ [])) 30
    ∷ example (number_under sheet_a (2 ∷ 3 ∷ [])) 0
    ∷ example (time_under weights_first (2 ∷ 3 ∷ [])) 726347
    ∷ example (number_under stray_before (2 ∷ 3 ∷ [])) 28
    ∷ example (number_under stray_between (2 ∷ 3 ∷ [])) 28
    ∷ example (number_under stray_after (2 ∷ 3 ∷ [])) 28
    ∷ example (number_under stray_kinds (2 ∷ 3 ∷ [])) 28
    ∷ example (number_under stray_overlap (2 ∷ 3 ∷ [])) 5
    ∷ example (time_under sheet_b (3 ∷ 3 ∷ 3 ∷ 3 ∷ [])) 9972471
    ∷ example (energy_under (powers 1 1) sheet_a (2 ∷ 3 ∷ [])) 726347
    ∷ example (energy_under (powers 2 3) sheet_a (2 ∷ 3 ∷ [])) 1461409
    ∷ example (energy_under (powers 3 5) sheet_b (2 ∷ 1 ∷ 3 ∷ 3 ∷ [])) 41752193
    ∷ example (energy_under (powers 3 5) sheet_b (3 ∷ 3 ∷ 3 ∷ 3 ∷ [])) 33812410
    ∷ example (energy_under (powers 3 5) sheet_b (3 ∷ 2 ∷ 3 ∷ 3 ∷ [])) 33515995
    ∷ example (energy_refusal (powers 1 1) sheet_a) 0
    ∷ example (energy_refusal (powers 16 16) sheet_a) 0
    ∷ example (energy_refusal (powers 3 5) sheet_b) 0
    ∷ example (energy_refusal (powers 0 1) sheet_a) 29
    ∷ example (energy_refusal (powers 1 0) sheet_a) 29
    ∷ example (energy_refusal (powers 17 1) sheet_a) 29
    ∷ example (energy_refusal (powers 1 17) sheet_a) 29
    ∷ example (energy_refusal (powers (2 ^ 32 + 1) 1) sheet_a) 29
    ∷ example (energy_refusal (powers 1 16) (dear_a 0)) 0
    ∷ example (energy_refusal (powers 1 16) (dear_a 1)) 29
    ∷ example (energy_refusal (powers 0 1) stray_after) 28
    ∷ example run_of_a.kept 262144
    ∷ example run_of_a.redone 131072
    ∷ example run_of_a.verify 2784
    ∷ example run_of_a.saves 7000
    ∷ example run_of_a.recovery 1000
    ∷ example (named_of_a (returned 7 ∷ [])).state.run.place.position 1
    ∷ example (named_of_a (returned 7 ∷ [])).state.run.place.sums.redone 0
    ∷ example (named_of_a (returned 7 ∷ [])).state.run.place.sums.verify 928
    ∷ example (named_of_a (returned 7 ∷ returned 8 ∷ [])).state.run.place.sums.redone 131072
    ∷ example (named_of_a (returned 7 ∷ dropped 7 ∷ [])).state.names.count 1
    ∷ example (named_of_a (dropped 7 ∷ returned 7 ∷ [])).number 30
    ∷ []

-- each example gives what is expected
unfoldable pub all_agree : List Example → Bool
all_agree [] = true
all_agree (e ∷ es) = eqb e.given e.expected && all_agree es
