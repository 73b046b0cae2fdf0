use Rattle.std.proofs.Common.{◌≡◌, ◌≢◌, ◌∙◌, ℕ, List, [], codes, Option, false, cond, sym, ap, subst}
use Rattle.std.specs.Prelude.{IfOk}
use Rattle.std.specs.Str.{bytes_eq}
use Rattle.std.proofs.lemmas.Bool.{false_from_ne_true}
use Rattle.std.proofs.lemmas.Slice.Eq.{bytes_eq-Decides}
use Rattle.http.specs.declared.request.Request.{Request}
use Rattle.http.specs.Request.{body_of, head_of}
use Rattle.http_uri.specs.Uri.{uri_path}
use Rattle.nmvs_json.specs.declared.asked_kind.AskedKind.{AskedKind}
use Rattle.nmvs_json.specs.Questions.{asked_at}
use Rattle.nmvs_http.specs.declared.reading.Reading.{Reading}
use Rattle.nmvs_http.specs.Requests.{asks_by_health, bulk_of, fault_of_post, reading_at, reading_by_path, reading_of_bulk, reading_of_lines}
use Rattle.nmvs_http.proofs.reading.read_by_path.Goals as goal

differ : (xs ys : List ℕ) → xs ≢ ys → bytes_eq xs ys ≡ false
differ xs ys other = false_from_ne_true (bytes_eq xs ys) (λ e. other ((bytes_eq-Decides xs ys).0 e))

-- a request at a path other than those of lines and of health
other_path : (request : Request (List ℕ)) (kind : Option AskedKind) (path : List ℕ) → path ≡ uri_path (head_of request).uri → path ≢ codes "/v1/lines" → path ≢ codes "/v1/questions" → path ≢ codes "/healthz" → kind ≡ asked_at path
    → reading_at kind request ≡ reading_by_path request
unfolding reading_by_path
other_path request kind path same lines bulk health at =
    let p = uri_path (head_of request).uri in
    let not_lines : bytes_eq p (codes "/v1/lines") ≡ false = differ p (codes "/v1/lines") (λ e. lines (same ∙ e)) in
    let not_bulk : bytes_eq p (codes "/v1/questions") ≡ false = differ p (codes "/v1/questions") (λ e. bulk (same ∙ e)) in
    let not_health : bytes_eq p (codes "/healthz") ≡ false = differ p (codes "/healthz") (λ e. health (same ∙ e)) in
    let its : kind ≡ asked_at p = at ∙ ap asked_at same in
    sym (λ i. cond (not_lines i) (reading_of_lines (fault_of_post (codes "application/vnd.nmvs.lines") request) (body_of request))
    (cond (not_bulk i) (reading_of_bulk (fault_of_post (codes "application/json") request) (bulk_of request))
    (cond (not_health i) (record { asks = asks_by_health (head_of request).method; lines = [] }) (reading_at (sym its i) request))))

pub returns-in_default : goal.returns-in_default
returns-in_default c =
    subst (λ (t : Reading). IfOk c.read_at.result (λ reading. reading ≡ t))
    (other_path c.args.request.now c.at.result c.path.result.now (c.path.ensures.value ∙ ap uri_path c.uri.ensures) c.in_default.not-text c.in_default.not-text-2 c.in_default.not-text-3 c.at.ensures) c.read_at.ensures
