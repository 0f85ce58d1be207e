-- The numbers of document 01's refusals and of the requests'. The condition of each stands in the crate that tests it.
use Rattle.std.specs.Prelude.{ℕ}

-- what an accepted call has in a refusal's place
abbrev pub accepted : ℕ
accepted = 0

abbrev pub bad_length : ℕ
bad_length = 1

abbrev pub bad_form : ℕ
bad_form = 2

abbrev pub bad_count : ℕ
bad_count = 3

abbrev pub bad_sections : ℕ
bad_sections = 4

abbrev pub bad_extents : ℕ
bad_extents = 5

abbrev pub bad_kinds : ℕ
bad_kinds = 6

abbrev pub bad_value : ℕ
bad_value = 7

abbrev pub bad_task : ℕ
bad_task = 8

abbrev pub bad_marks : ℕ
bad_marks = 9

abbrev pub bad_stretch : ℕ
bad_stretch = 10

abbrev pub short_buffer : ℕ
short_buffer = 11

abbrev pub bad_record : ℕ
bad_record = 12

abbrev pub too_slow : ℕ
too_slow = 13

abbrev pub broken : ℕ
broken = 21

abbrev pub finished : ℕ
finished = 22

abbrev pub out_of_turn : ℕ
out_of_turn = 23

abbrev pub over_weight : ℕ
over_weight = 24

abbrev pub over_total : ℕ
over_total = 25

abbrev pub other_platform : ℕ
other_platform = 26

abbrev pub long_chain : ℕ
long_chain = 27

abbrev pub stray_byte : ℕ
stray_byte = 28

abbrev pub bad_power : ℕ
bad_power = 29

abbrev pub not_held : ℕ
not_held = 30

abbrev pub names_full : ℕ
names_full = 31
