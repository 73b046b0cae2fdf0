-- The requests that a connection's calls were given.
use Rattle.std.proofs.Common.{◌≡◌, ◌≢◌, ◌⊎◌, ℕ, Bool, List, [], ◌∷◌, ◌++◌, map, Option, Some, None, refl, sym, ap, ◌∙◌, inl, inr, subst, true, ◌↔◌}
use Rattle.std.proofs.Math.Logic.{∥∥₁_map}
use Rattle.std.proofs.lemmas.List.{append-nil}
use Rattle.http.specs.declared.request.Request.{Request}
use Rattle.http1.specs.Message as Wire
use Rattle.http_server.specs.declared.connection.Connection.{Connection}
use Rattle.http_server.specs.declared.response.Response.{Response}
use Rattle.http_server.specs.declared.state.Config.{Config}
use Rattle.http_server.specs.declared.state.State.{State}
use Rattle.http_server.specs.declared.state.State.TheVariants.{Open, Closing, Upgraded, Aborted}
use Rattle.http_server.specs.declared.state.Reason.TheVariants.{Asked, EndOfInput, Refused}
use Rattle.http_server.specs.declared.state.Refusal.{Refusal}
use Rattle.http_server.specs.declared.state.Refusal.TheVariants.{Truncated, Unreadable, BodyTooLarge, InvalidPart, InvalidHost, UnknownCoding, InvalidResponse}
use Rattle.http_server.specs.Exchange.{Call, Chain, Calls, ReadsCall, Serves}
use Rattle.http_server.specs.History.{History, IsServed, Justifies, Stands}
use Rattle.http_server.specs.Connection.{config_of, history}
use Rattle.http_server.proofs.StreamLemmas.{ReadsCall-append}
use Rattle.http_server.proofs.Theorems.{always_served}
use Rattle.nmvs_http.specs.declared.request_stream.Asked.{Asked as Asking}
use Rattle.nmvs_http.specs.declared.request_stream.Next.{Next}
use Rattle.nmvs_http.specs.declared.request_stream.Next.TheVariants as nexts
use Rattle.nmvs_http.specs.declared.request_stream.Reader.{Reader}
use Rattle.nmvs_http.specs.StreamState.{StreamState, request_limits, stream_state}
use Rattle.nmvs_http.specs.Streams.{IsNext, IsNextOf, ReadsAsked, ReadsRequests}

abbrev pub requests_of : List Call → List (Request (List ℕ))
requests_of calls = map (λ (c : Call). c.0) calls

requests-append : (before after : List Call) → requests_of (before ++ after) ≡ requests_of before ++ requests_of after
requests-append [] after = refl
requests-append (c ∷ before) after = ap (λ (rs : List (Request (List ℕ))). c.0 ∷ rs) (requests-append before after)

served_requests : (config : Config) (stream : List ℕ) (calls : List Call) (text rest : List ℕ) → Serves config stream calls text rest
    → ReadsRequests config stream (requests_of calls) rest
served_requests config stream [] text rest x = x.0
served_requests config stream (c ∷ calls) text rest x =
    (x.4.message, x.1, x.4.request, served_requests config x.1 calls x.2 rest x.5)

one_more : (config : Config) (stream : List ℕ) (requests : List (Request (List ℕ))) (message : Wire.Request) (r : Request (List ℕ)) (mid rest : List ℕ)
    → ReadsRequests config stream requests mid → ReadsCall config mid message r rest → ReadsRequests config stream (requests ++ r ∷ []) rest
one_more config stream [] message r mid rest x reads = (message, rest, subst (λ (s : List ℕ). ReadsCall config s message r rest) (sym x) reads, refl)
one_more config stream (q ∷ requests) message r mid rest x reads = (x.0, x.1, x.2, one_more config x.1 requests message r mid rest x.3 reads)

abbrev Requests : Config → History → Type 0
Requests config h = (rest : List ℕ) × ReadsRequests config h.received (requests_of h.calls) rest

same_calls : (config : Config) (h : History) (answered : List Call) (text rest : List ℕ) → Serves config h.received answered text rest → h.calls ≡ answered
    → Requests config h
same_calls config h answered text rest serves same =
    (rest, subst (λ (cs : List Call). ReadsRequests config h.received (requests_of cs) rest) (sym same) (served_requests config h.received answered text rest serves))

last_call : (config : Config) (h : History) (answered : List Call) (text mid rest : List ℕ) (c : Call) (message : Wire.Request) → Serves config h.received answered text mid
    → h.calls ≡ answered ++ c ∷ [] → ReadsCall config mid message c.0 rest → Requests config h
last_call config h answered text mid rest c message serves calls reads =
    let same = ap requests_of calls ∙ requests-append answered (c ∷ []) in (
      rest,
      subst (λ (rs : List (Request (List ℕ))). ReadsRequests config h.received rs rest) (sym same)
          (one_more config h.received (requests_of answered) message c.0 mid rest (served_requests config h.received answered text mid serves) reads),
    )

refused : (why : Refusal) (config : Config) (h : History) (answered : List Call) (text rest : List ℕ) → Serves config h.received answered text rest
    → Justifies why config h answered rest → Requests config h
refused Truncated config h answered text rest serves x = same_calls config h answered text rest serves x.0
refused (Unreadable e) config h answered text rest serves x = same_calls config h answered text rest serves x.0
refused BodyTooLarge config h answered text rest serves x = same_calls config h answered text rest serves x.0
refused (InvalidPart e) config h answered text rest serves x = same_calls config h answered text rest serves x.0
refused InvalidHost config h answered text rest serves x = same_calls config h answered text rest serves x.0
refused UnknownCoding config h answered text rest serves x = same_calls config h answered text rest serves x.0
refused (InvalidResponse e) config h answered text rest serves x =
    last_call config h answered text rest x.0 x.1.call x.1.message serves x.1.calls x.1.request

stands : (state : State) (config : Config) (h : History) (answered : List Call) (text interim rest : List ℕ) → state ≢ Aborted
    → Serves config h.received answered text rest → Stands state config h answered text interim rest → Requests config h
stands Open config h answered text interim rest sound serves x = same_calls config h answered text rest serves x.0
stands (Closing Asked) config h answered text interim rest sound serves x =
    last_call config h answered text rest x.2 x.0 x.3.message serves x.4 x.3.request
stands (Closing EndOfInput) config h answered text interim rest sound serves x = same_calls config h answered text rest serves x.0
stands (Closing (Refused why)) config h answered text interim rest sound serves x = refused why config h answered text rest serves x.0
stands Upgraded config h answered text interim rest sound serves x =
    last_call config h answered text rest h.unread x.last.call x.last.message serves x.last.calls x.last.request
stands Aborted config h answered text interim rest sound serves x = absurd (sound refl)

-- unless memory ran out, the received bytes are the requests of the calls, and a rest
pub requests_read : (config : Config) (h : History) → h.state ≢ Aborted → IsServed config h → Requests config h
requests_read config h sound x = stands h.state config h x.answered x.text x.interim x.rest sound x.serves x.stands

-- the contract of a reader's service: it takes a request if it has none
abbrev pub Answers : Reader → Request (List ℕ) → Response → Reader → Type 0
Answers old request response new = (old.asked ≡ None) × ReadsAsked old.direct request new.asked

-- the calls of a reader that began with no request: it read none, or one
abbrev pub ReadsOne : Bool → List (Request (List ℕ)) → List (Request (List ℕ)) → Option Asking → Type 0
ReadsOne direct old new asked =
    ((new ≡ old) × (asked ≡ None)) ⊎ ((r : Request (List ℕ)) × (new ≡ old ++ r ∷ []) × ReadsAsked direct r asked)

chain_one : (before calls : List Call) (old new : Reader) → old.asked ≡ None → Chain Answers old calls new
    → ReadsOne old.direct (requests_of before) (requests_of (before ++ calls)) new.asked
chain_one before [] old new none x = inl (requests-append before [] ∙ append-nil (requests_of before), ap (λ (r : Reader). r.asked) x ∙ none)
chain_one before (c ∷ []) old new none x =
    inr (c.0, requests-append before (c ∷ []), subst (λ (r : Reader). ReadsAsked old.direct c.0 r.asked) (sym x.2) x.1.1)
chain_one before (c ∷ d ∷ calls) old new none x = absurd (subst (λ (a : Option Asking). ReadsAsked old.direct c.0 a) x.2.1.0 x.1.1)

pub calls_one : (before after : List Call) (old new : Reader) → old.asked ≡ None → Calls Answers old new before after
    → ReadsOne old.direct (requests_of before) (requests_of after) new.asked
calls_one before after old new none x =
    subst (λ (cs : List Call). ReadsOne old.direct (requests_of before) (requests_of cs) new.asked) (sym x.1) (chain_one before x.0 old new none x.2)

none_read : (direct : Bool) (old new : List (Request (List ℕ))) (asked : Option Asking) → asked ≡ None → ReadsOne direct old new asked → new ≡ old
none_read direct old new asked none (inl x) = x.0
none_read direct old new asked none (inr x) = absurd (subst (λ (a : Option Asking). ReadsAsked direct x.0 a) none x.2)

one_read : (direct : Bool) (old new : List (Request (List ℕ))) (asked : Option Asking) (a : Asking) → asked ≡ Some a → ReadsOne direct old new asked
    → (r : Request (List ℕ)) × (new ≡ old ++ r ∷ []) × ReadsAsked direct r (Some a)
one_read direct old new asked a some (inl x) = absurd (cc (x.1, some))
one_read direct old new asked a some (inr x) = (x.0, x.1, subst (λ (b : Option Asking). ReadsAsked direct x.0 b) some x.2)

-- the next item of a stream, by the request that was read and the state of the connection
pub is_next : (result : Next) (asked : Option Asking) (old new : StreamState) → IsNextOf asked new result → ReadsOne old.direct old.requests new.requests asked
    → IsNext old new result
is_next nexts.Nothing asked old new x one = (none_read old.direct old.requests new.requests asked x.0 one, x.1)
is_next nexts.Invitation asked old new x one = (none_read old.direct old.requests new.requests asked x.0 one, x.1)
is_next (nexts.Request a stays) asked old new x one = (one_read old.direct old.requests new.requests asked a x.0 one, x.1, x.2)
is_next (nexts.Refused fault) asked old new x one = (none_read old.direct old.requests new.requests asked x.0 one, x.1)
is_next nexts.Lost asked old new x one = tt

-- unless memory ran out, a stream is the requests read from it, and a rest
pub stream_read : (direct : Bool) (c : Connection) → config_of c ≡ request_limits → (history c).state ≢ Aborted
    → ∥ ((rest : List ℕ) × ReadsRequests request_limits (stream_state direct c).fed (stream_state direct c).requests rest) ∥₁
stream_read direct c config sound =
    subst (λ (f : Config). ∥ Requests f (history c) ∥₁) config (∥∥₁_map (always_served c) (requests_read (config_of c) (history c) sound))

-- the requests that a stream begins with stay when more bytes come
pub reads_more : (config : Config) (stream : List ℕ) (requests : List (Request (List ℕ))) (rest more : List ℕ) → ReadsRequests config stream requests rest
    → ReadsRequests config (stream ++ more) requests (rest ++ more)
reads_more config stream [] rest more x = ap (λ (t : List ℕ). t ++ more) x
reads_more config stream (r ∷ requests) rest more x = (x.0, x.1 ++ more, ReadsCall-append x.2 more, reads_more config x.1 requests rest more x.3)

-- the next item is that of a stream with the same requests and state
pub next_of_same : (old new old' new' : StreamState) (result : Next) → old'.direct ≡ old.direct → old'.requests ≡ old.requests → new'.requests ≡ new.requests → new'.state ≡ new.state
    → IsNext old new result → IsNext old' new' result
next_of_same old new old' new' nexts.Nothing same before after state x = (after ∙ x.0 ∙ sym before, state ∙ x.1)
next_of_same old new old' new' nexts.Invitation same before after state x = (after ∙ x.0 ∙ sym before, state ∙ x.1)
next_of_same old new old' new' (nexts.Request asked stays) same before after state x = (
  (x.0.0, after ∙ x.0.1 ∙ ap (λ (rs : List (Request (List ℕ))). rs ++ x.0.0 ∷ []) (sym before), subst (λ (direct : Bool). ReadsAsked direct x.0.0 (Some asked)) (sym same) x.0.2),
  subst (λ (s : State). s ≢ Aborted) (sym state) x.1,
  subst (λ (s : State). stays ≡ true ↔ s ≡ Open) (sym state) x.2,
)
next_of_same old new old' new' (nexts.Refused fault) same before after state x = (after ∙ x.0 ∙ sym before, (x.1.0, state ∙ x.1.1, x.1.2))
next_of_same old new old' new' nexts.Lost same before after state x = tt
