-- How the bytes of a socket stay those of the codec that carries its lines over HTTP.
use Rattle.std.proofs.Common.{◌≡◌, ◌≤◌, ℕ, Bool, false, nat_lt, List, ◌++◌, length, take, drop, Some, sym, ap, subst, ◌∙◌, arith}
use Rattle.std.proofs.lemmas.List.{append-nil, append_assoc, append_cancel_left, drop_all, take-append-drop}
use Rattle.nmvs_http.specs.Codecs.{AnswersLines}
use Rattle.nmvs_connections.specs.declared.line_stream.Http.{Http}
use Rattle.nmvs_connections.specs.Traffic.{Traffic}
use Rattle.nmvs_connections.specs.LineStreams.{AnswersOver, IsFed, carried_over}

-- the codec was fed bytes of the socket, as many as there was memory for
pub is_fed : (raw : Traffic) (old new : Http) (bytes : List ℕ) (count : ℕ) → old.discards ≡ false → count ≤ length bytes → new.codec.stream.fed ≡ old.codec.stream.fed ++ take count bytes → new.codec.sent ≡ old.codec.sent
    → new.before ≡ old.before → new.discards ≡ nat_lt count (length bytes) → IsFed raw old → IsFed (record raw { received = raw.received ++ bytes }) new
is_fed raw old new bytes count open_still within feeds sends same stops x =
    let before = old.before.numbers in
    let fed = old.codec.stream.fed in
    let whole : raw.received ≡ before ++ fed = x.received_is ∙ ap (λ (r : List ℕ). before ++ (fed ++ r)) (x.all open_still) ∙ ap (λ (t : List ℕ). before ++ t) (append-nil fed) in record {
      rest = drop count bytes;
      received_is = ap (λ (t : List ℕ). t ++ bytes) whole ∙ append_assoc before fed bytes
          ∙ ap (λ (t : List ℕ). before ++ (fed ++ t)) (sym (take-append-drop count bytes))
          ∙ ap (λ (t : List ℕ). before ++ t) (sym (append_assoc fed (take count bytes) (drop count bytes)))
          ∙ ap (λ (t : List ℕ). before ++ (t ++ drop count bytes)) (sym feeds)
          ∙ ap (λ b. b.numbers ++ (new.codec.stream.fed ++ drop count bytes)) (sym same);
      all = λ on. let less = sym stops ∙ on in drop_all count bytes (grind arith);
      sent_is = x.sent_is ∙ sym sends;
    }

-- the replies that answer the carried lines answer the lines that the codec gave
pub answers_own : (raw : Traffic) (h : Http) (ended : Bool) → AnswersOver (Some h.before.numbers) (carried_over h) ended → AnswersLines h.codec.given h.codec.replies ended
answers_own raw h ended x =
    subst (λ (g : List ℕ). AnswersLines g h.codec.replies ended) (sym (append_cancel_left h.before.numbers h.codec.given x.given x.received_is)) x.answers
