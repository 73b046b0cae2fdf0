use Rattle.std.proofs.Common.{rules, ◌≡◌, ◌∙◌, string_bytes, ap}
use Rattle.nmvs_etcd.specs.Names.{is_word, owner_name}
use Rattle.nmvs_etcd.proofs.Naming.{owner_word}
use Rattle.nmvs_etcd.proofs.owner_name.OwnerName.new.Goals as goal

pub invariant_of-result : goal.invariant_of-result
invariant_of-result c =
    let name : string_bytes c.in_ok-text.text ≡ owner_name c.args.machine.now c.args.drawn.now = search rules in
    ap is_word name ∙ owner_word c.args.machine.now c.args.drawn.now (search rules)
