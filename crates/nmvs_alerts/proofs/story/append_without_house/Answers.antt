use Rattle.std.proofs.Common.{◌≡◌, ◌∙◌, ◌++◌, ◌-◌, ℕ, List, ap, drop, length, min, take}
use Rattle.std.specs.Prelude.{string_bytes}
use Rattle.nmvs_line.specs.Line.{entry_line}
use Rattle.nmvs_alerts.specs.Story.{asked_by, shown_front, without_house}
use Rattle.nmvs_alerts.proofs.JsonLemmas.{left, on-ok, onward}
use Rattle.nmvs_alerts.proofs.story.append_without_house.Goals as goal

pub returns : goal.returns
unfolding without_house
returns c =
    let front : c.append.new.block.items ≡ c.args.block.now.items ++ shown_front c.args.entry.now =
    c.in_ok-append.ensures ∙ ap (λ (text : List ℕ). c.args.block.now.items ++ text) (c.deref.ensures ∙ c.in_ok-shown.ensures) in
    let bytes = c.as_bytes-bytes.result.now in
    let many : c.min-behind.result ≡ min (length (string_bytes c.in_ok-front.front)) (length bytes) = c.min-behind.ensures ∙ ap (λ (text : List ℕ). min (length text) (length bytes)) c.as_bytes.ensures.value in
    let line : bytes ≡ entry_line (asked_by c.args.user.now c.args.actor.now c.args.entry.now) =
    c.as_bytes-bytes.ensures.value ∙ c.as_str.ensures.value ∙ c.entry_line-line.ensures.line ∙ ap entry_line c.asked_by.ensures in
    on-ok c.extend_from_slice.result c.extend_from_slice.new.self.items _ _ _ c.extend_from_slice.ensures.items
    (onward c.args.block.now.items (shown_front c.args.entry.now) front _
    ∙ ap (λ (text : List ℕ). c.args.block.now.items ++ (shown_front c.args.entry.now ++ text))
    (ap (λ (n : ℕ). take (length bytes - n) (drop n bytes)) many ∙ left (length (string_bytes c.in_ok-front.front)) bytes
    ∙ (λ i. drop (length (c.in_ok-front.ensures i)) (line i))))
