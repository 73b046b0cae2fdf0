use Rattle.std.proofs.Common.{◌≡◌, ◌∙◌, List, ℕ, map, sym, subst, true}
use Rattle.std.specs.Str.{IsUtf8}
use Rattle.nmvs_identifier.specs.Serial.{is_serial}
use Rattle.nmvs_cases.specs.Hints.{typed_byte}
use Rattle.nmvs_cases.proofs.KeyboardLemmas.{all-typed, ok-case, serial-stays, serial-text, utf8-ok}
use Rattle.nmvs_cases.proofs.keyboard.typed_serial.Goals as goal

pub unwrap-text-requires : goal.unwrap-text-requires
unwrap-text-requires c =
    let typed : c.as_slice.result.now ≡ map (typed_byte c.args.keyboard) c.args.serial.now.bytes = c.as_slice.ensures.value ∙ all-typed c.args.keyboard c.loop-rest.typed.items c.loop-rest.rest.now c.args.serial.now.bytes c.in_default.len_below c.loop-rest.invariant.0 in
    let text = serial-text (map (typed_byte c.args.keyboard) c.args.serial.now.bytes) (serial-stays c.args.keyboard c.args.serial.now.bytes c.text.ensures.grammar) in
    utf8-ok _ _ (IsUtf8 c.as_slice.result.now) c.from_utf8.result c.from_utf8.ensures.cases (subst (λ (t : List ℕ). IsUtf8 t) (sym typed) text)

pub unwrap-requires : goal.unwrap-requires
unwrap-requires c =
    let typed : c.as_slice.result.now ≡ map (typed_byte c.args.keyboard) c.args.serial.now.bytes = c.as_slice.ensures.value ∙ all-typed c.args.keyboard c.loop-rest.typed.items c.loop-rest.rest.now c.args.serial.now.bytes c.in_default.len_below c.loop-rest.invariant.0 in
    let read = ok-case _ _ c.from_utf8.result c.unwrap-text.result c.unwrap-text.ensures c.from_utf8.ensures.cases in
    c.read.ensures.accepts.1 (subst (λ (t : List ℕ). is_serial t ≡ true) (sym (read.0 ∙ typed)) (serial-stays c.args.keyboard c.args.serial.now.bytes c.text.ensures.grammar))
