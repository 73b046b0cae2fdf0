use Rattle.std.proofs.Common.{rules, refl}
use Rattle.nmvs_directory.specs.Registrar.{pending}
use Rattle.nmvs_operator.proofs.UsersFile.{not_read, not_added, adds_first-adds}
use Rattle.nmvs_operator.proofs.users.load_users.Goals as goal

pub returns-in_err-bytes-clause-fault : goal.returns-in_err-bytes-clause-fault
returns-in_err-bytes-clause-fault g c =
    let told = not_read (g.S.Source.told c.args.source.now) _ c.args.reads (pending c.args.registrar.now) (pending c.args.registrar.now) _ refl c.in_err-bytes.ensures.fault in
    search (rules, told)

pub returns-clause-fault : goal.returns-clause-fault
returns-clause-fault g c =
    let adds = c.in_ok-add_all.ensures.added in
    (c.in_ok-bytes.bytes.items, c.in_ok-bytes.ensures.bytes, adds_first-adds _ (rw c.deref.ensures.value at adds) c.in-Err.ensures.pending)

pub returns-in_err-add_all-clause-fault : goal.returns-in_err-add_all-clause-fault
returns-in_err-add_all-clause-fault g c =
    let source = g.S.Source.told c.args.source.now in
    let source' = g.S.Source.told c.read_all.new.source in
    let added = rw c.deref.ensures.value at c.in_err-add_all.ensures.fault in
    let told = not_added source source' c.args.reads c.in_ok-bytes.bytes.items _ _ _ c.in_ok-bytes.ensures.bytes c.in_ok-bytes.ensures.ended added in
    search (rules, told)
