use Rattle.nmvs_elements.specs.Found.{found_at}
use Rattle.nmvs_elements.proofs.ValueFacts.{wrong_expiry, wrong_national}
use Rattle.nmvs_elements.proofs.values.read_values.Goals as goal

pub returns-in_default-expiry_of-clause-err : goal.returns-in_default-expiry_of-clause-err
returns-in_default-expiry_of-clause-err c =
    wrong_expiry c.args.nation (found_at c.args.found.now) c.in-Some.code.bytes c.in-Some-serial_of.serial.bytes c.in-Some-batch_of.batch.bytes c.requires
    c.in-Some.ensures.some.0 c.in-Some.ensures.some.1 c.in-Some-serial_of.ensures.some.0 c.in-Some-serial_of.ensures.some.1
    c.in-Some-batch_of.ensures.some.0 c.in-Some-batch_of.ensures.some.1 c.in_default-expiry_of.ensures.none

pub returns-in-None-national_number_of-clause-err : goal.returns-in-None-national_number_of-clause-err
returns-in-None-national_number_of-clause-err c =
    wrong_national c.args.nation c.in-Some-nation.nation (found_at c.args.found.now) c.in-Some.code.bytes c.in-Some-serial_of.serial.bytes c.in-Some-batch_of.batch.bytes
    c.in-Some-expiry_of.expiry.bytes c.in-Some-nation.is c.requires
    c.in-Some.ensures.some.0 c.in-Some.ensures.some.1 c.in-Some-serial_of.ensures.some.0 c.in-Some-serial_of.ensures.some.1
    c.in-Some-batch_of.ensures.some.0 c.in-Some-batch_of.ensures.some.1 c.in-Some-expiry_of.ensures.some.0 c.in-Some-expiry_of.ensures.some.1 c.in-None-national_number_of.ensures.none
