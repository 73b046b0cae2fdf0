-- A request that is written whole.
use Rattle.std.proofs.Common.{◌≡◌, ℕ, ◌^◌, ◌<◌, ◌≤◌, List, [], ◌∷◌, ◌++◌, length, Option, Some, None, OnOk, Result, Ok, Err, codes, refl, sym, ap, ◌∙◌, subst, append_assoc, length-append, arith}
use Rattle.std.proofs.lemmas.List.{append-nil}
use Rattle.http1.specs.declared.client.Client.{Client}
use Rattle.http1.specs.declared.conn.BodySize.{BodySize}
use Rattle.http1.specs.declared.error.WriteError.{WriteError}
use Rattle.http1.specs.declared.framing.Framing.{Framing}
use Rattle.http1.specs.declared.framing.Framing.TheVariants as Framed
use Rattle.http1.specs.Body.{body_of}
use Rattle.http1.specs.Client.{after_request, planned_request, request_plan, request_refusal, requesting, with_writing, writing}
use Rattle.http1.specs.Conn.{Plan, after_data, data_refusal, data_text, finish_refusal, finish_text, plan_refusal, planned_headers}
use Rattle.http1.specs.Fields.{Header}
use Rattle.http1.specs.Head.{is_request_line, request_head, request_text}
use Rattle.http1.specs.Message.{ReadsRequestMessage}
use Rattle.http1.specs.Output.{GivesOrRefuses}
use Rattle.http1.proofs.BodyRoundTrip.{MayFollow}
use Rattle.http1.proofs.MessageRoundTrip.{request_round_trip}
use Rattle.nmvs_etcd.specs.declared.http.Procedure.{Procedure}
use Rattle.nmvs_etcd.specs.Exchanges.{IsRequest, path}

-- a call that did not fail had no refusal
pub not_refused : {T : Type 0} (refusal : Option WriteError) (spare len : ℕ) (r : Result T WriteError) (v : T) → r ≡ Ok v → GivesOrRefuses refusal spare len r → refusal ≡ None
not_refused None spare len r v is h = refl
not_refused (Some e) spare len r v is h = absurd (let both : Ok v ≡ Err e = sym is ∙ h in cc both)

pub on_ok : {T E P : Type 0} (r : Result T E) → ((v : T) → r ≡ Ok v → P) → OnOk r P
on_ok (Ok v) f = f v refl
on_ok (Err e) f = tt

pub of_ok : {T E P : Type 0} (r : Result T E) (v : T) → r ≡ Ok v → OnOk r P → P
of_ok {P = P} r v is h = subst (λ x. OnOk x P) is h

nothing_follows : (framing : Framing) → MayFollow framing []
nothing_follows Framed.NoBody = tt
nothing_follows (Framed.Length n) = tt
nothing_follows Framed.Chunked = tt
nothing_follows Framed.UntilClose = refl

module _ (procedure : Procedure) (method target : List ℕ) (size : BodySize) (headers : List Header) (body : List ℕ) (c : Client) (is_post : method ≡ codes "POST") (is_path : target ≡ path procedure) (short : length body < 2 ^ 64) where
  abbrev head_text : Result Plan WriteError → List ℕ
  head_text p = request_text method target 1 (planned_headers p headers)

  abbrev body_part : Client → List ℕ
  body_part sent = data_text (writing sent) body ++ finish_text (after_data (writing sent) (length body)) []

  by_plan : (p : Result Plan WriteError) → request_plan c method size headers ≡ p
      → plan_refusal p (is_request_line method target 1) headers ≡ None
      → data_refusal (writing (requesting c method headers p)) (length body) ≡ None
      → finish_refusal (after_data (writing (requesting c method headers p)) (length body)) [] ≡ None
      → IsRequest procedure body (head_text p ++ body_part (requesting c method headers p))
  by_plan (Err e) is valid data_ok end_ok = absurd cc
  by_plan (Ok p) is valid data_ok end_ok =
      let sent = requesting c method headers (Ok p) in
      let head = head_text (Ok p) in
      let content = body_part sent in
      record {
        message = record { head = request_head method target 1 (planned_headers (Ok p) headers); body = body_of (body ++ []) [] };
        reads = λ any room trailers_room.
            let fits : length head ≤ any.max_head_len = omega (arith, room, length-append head content) in
            subst (λ (t : List ℕ). ReadsRequestMessage any (head ++ t) (record { head = request_head method target 1 (planned_headers (Ok p) headers); body = body_of (body ++ []) [] }) []) (append-nil content)
            (request_round_trip any size headers p (body ∷ []) [] [] (short, data_ok, end_ok) trailers_room (nothing_follows p.framing) c method target is valid fits);
        method = is_post;
        target = is_path;
        content = append-nil body;
      }

  -- three calls of a client wrote exactly one request
  pub posted : (t0 t1 t2 t3 : List ℕ) (c1 c2 : Client) → t0 ≡ [] → request_refusal c method target size headers ≡ None
      → t1 ≡ t0 ++ planned_request c method target size headers → c1 ≡ after_request c method size headers
      → data_refusal (writing c1) (length body) ≡ None → t2 ≡ t1 ++ data_text (writing c1) body
      → c2 ≡ with_writing c1 (after_data (writing c1) (length body))
      → finish_refusal (writing c2) [] ≡ None → t3 ≡ t2 ++ finish_text (writing c2) []
      → IsRequest procedure body t3
  posted t0 t1 t2 t3 c1 c2 begun valid is1 next1 data_ok is2 next2 end_ok is3 =
      let sent = after_request c method size headers in
      let writes : writing c2 ≡ after_data (writing sent) (length body) = ap writing next2 ∙ ap (λ (x : Client). after_data (writing x) (length body)) next1 in
      let text : t3 ≡ head_text (request_plan c method size headers) ++ body_part sent =
      is3
      ∙ (λ i. (is2 i) ++ finish_text (writes i) [])
      ∙ (λ i. ((is1 ∙ ap (λ (t : List ℕ). t ++ planned_request c method target size headers) begun) i ++ data_text (writing (next1 i)) body) ++ finish_text (after_data (writing sent) (length body)) [])
      ∙ append_assoc (planned_request c method target size headers) (data_text (writing sent) body) (finish_text (after_data (writing sent) (length body)) [])
      in
      subst (λ (t : List ℕ). IsRequest procedure body t) (sym text)
      (by_plan (request_plan c method size headers) refl valid
      (subst (λ (x : Client). data_refusal (writing x) (length body) ≡ None) next1 data_ok)
      (ap (λ w. finish_refusal w []) (sym writes) ∙ end_ok))
