use Rattle.std.proofs.Common.{◌≡◌, ◌∙◌, ◌++◌, List, ℕ, take, ap, Result, Ok, Err}
use Rattle.std.specs.Prelude.{OnOk}
use Rattle.nmvs_messages.specs.PendingLines.{kept_part}
use Rattle.nmvs_messages.proofs.KeptLines.{kept_filled}
use Rattle.nmvs_messages.proofs.pending_line.PendingLine.extend.Goals as goal

on_ok : {T E : Type 0} (r : Result T E) (v : T) (P : Type 0) → r ≡ Ok v → OnOk r P → P
on_ok (Ok w) v P e p = p
on_ok (Err f) v P e p = absurd cc

pub returns : goal.returns
returns c =
    let old = c.self.inside.bytes.items in
    let more = c.args.bytes.now in
    on_ok c.try_extend_from_slice.result c.unwrap.result _ c.unwrap.ensures c.try_extend_from_slice.ensures.ok
    ∙ ap (λ (n : ℕ). old ++ take n more) c.min-count.ensures
    ∙ kept_filled old more c.remaining_capacity.result c.remaining_capacity.ensures
    ∙ ap (λ (x : List ℕ). kept_part (x ++ more)) c.self.view_is
