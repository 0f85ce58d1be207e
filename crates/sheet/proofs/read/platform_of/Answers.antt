-- `sheet::read::platform_of` meets its contract. Seven fields of the platform section, each at its place. Assumes nothing.
use Rattle.sheet.specs.Reading.{platform_of}
use Rattle.sheet.proofs.read.platform_of.Goals as goal

pub returns : goal.returns
unfolding platform_of
returns c =
    let section-field = c.section_field in
    let section-field2 = c.section_field-2 in
    let section-field3 = c.section_field-3 in
    let section-field4 = c.section_field-4 in
    let section-field5 = c.section_field-5 in
    let section-field6 = c.section_field-6 in
    let section-field7 = c.section_field-7 in
    rw (section-field.ensures, section-field2.ensures, section-field3.ensures, section-field4.ensures, section-field5.ensures, section-field6.ensures, section-field7.ensures)
