-- A codec carries its requests after each step.
use Rattle.std.proofs.Common.{◌≡◌, ◌≢◌, ◌≤◌, ◌+◌, inl, inr, ℕ, Bool, true, false, cond, List, [], ◌∷◌, ◌++◌, length, take, drop, Option, Some, None, refl, sym, ap, subst, arith, ◌∙◌}
use Rattle.std.proofs.lemmas.List.{append-nil, append_assoc, drop-append-le, drop-drop, length-append, take-append-drop}
use Rattle.http.specs.declared.request.Request.{Request}
use Rattle.http_server.specs.declared.state.State.TheVariants as states
use Rattle.nmvs_http.specs.declared.asked.Asks.TheVariants as asks
use Rattle.nmvs_http.specs.declared.codec.CodecStage.{CodecStage}
use Rattle.nmvs_http.specs.declared.codec.CodecStage.TheVariants as stages
use Rattle.nmvs_http.specs.declared.codec.Decoded.{Decoded}
use Rattle.nmvs_http.specs.declared.codec.Decoded.TheVariants as decoded
use Rattle.nmvs_http.specs.declared.codec.Hand.{Hand}
use Rattle.nmvs_http.specs.declared.fault.Fault.{Fault}
use Rattle.nmvs_http.specs.declared.request_stream.Asked.{Asked}
use Rattle.nmvs_http.specs.declared.request_stream.Next.TheVariants as nexts
use Rattle.nmvs_http.specs.Responses.{invitation_text, response_text}
use Rattle.nmvs_http.specs.StreamState.{StreamState}
use Rattle.nmvs_http.specs.Streams.{IsNext}
use Rattle.nmvs_http.specs.Codecs.{AnswersLines, AreTold, Carries, CodecState, Decodes, Exchange, Fits, GoesOn, HasRequest, InHand, HandGives, IsCarried, IsCodec, Message, StaysOpen, Tells, bytes_given, lines_in, message_text, replies_in, requests_in, text_of}
use Rattle.nmvs_http.specs.Codecs as specs

-- a text after the unsent bytes
pub unsent_more : (gone : ℕ) (items text : List ℕ) → gone ≤ length items → drop gone (items ++ text) ≡ drop gone items ++ text
unsent_more gone items text within = drop-append-le gone items text within

told_more : (sent items text : List ℕ) (gone : ℕ) → gone ≤ length items → sent ++ drop gone (items ++ text) ≡ (sent ++ drop gone items) ++ text
told_more sent items text gone within = ap (λ (t : List ℕ). sent ++ t) (unsent_more gone items text within) ∙ sym (append_assoc sent (drop gone items) text)

-- bytes move from the unsent to the sent
pub unsent_less : (sent items : List ℕ) (gone count : ℕ) → (sent ++ take count (drop gone items)) ++ drop (gone + count) items ≡ sent ++ drop gone items
unsent_less sent items gone count =
    append_assoc sent (take count (drop gone items)) (drop (gone + count) items)
    ∙ ap (λ (t : List ℕ). sent ++ (take count (drop gone items) ++ t)) (sym (drop-drop count gone items))
    ∙ ap (λ (t : List ℕ). sent ++ t) (take-append-drop count (drop gone items))

-- a codec that was fed nothing
pub is_new : (c : CodecState) (direct : Bool) → c.hand ≡ None → c.stream ≡ record { direct = direct; fed = []; requests = []; state = states.Open; held = [] } → c.given ≡ [] → c.replies ≡ [] → c.gathered ≡ [] → c.sent ++ c.unsent ≡ []
    → IsCodec c
is_new c direct none fresh given replies gathered told =
    λ _. (
      record {
        messages = [];
        told = tt;
        open_still = λ _. tt;
        begun = [];
        in_hand = subst (λ (h : Option Hand). InHand c.stream.direct h [] [] c.stream.requests) (sym none) (refl, ap (λ (s : StreamState). s.requests) fresh);
        given_is = given;
        replies_is = replies ∙ sym gathered;
        text_is = told;
      },
      λ aborts. absurd (cc (aborts, ap (λ (s : StreamState). s.state) fresh)),
    )

-- a codec that has lost something claims nothing
pub is_lost : (c : CodecState) → c.stage ≡ stages.Lost → IsCodec c
is_lost c lost = λ sound. absurd (sound lost)

-- a stream still comes directly, or not
comes_as : (c : CodecState) (old new : Bool) → new ≡ old → Carries old c → Carries new c
comes_as c old new same x = subst (λ (direct : Bool). Carries direct c) (sym same) x

-- the requests of the stream stay, whatever its state
moved : (c : CodecState) (stream : StreamState) → stream.direct ≡ c.stream.direct → stream.requests ≡ c.stream.requests → Carries c.stream.direct c
    → Carries stream.direct (record c { stream = stream })
moved c stream direct same x =
    comes_as (record c { stream = stream }) c.stream.direct stream.direct direct
    (record {
      messages = x.messages;
      told = x.told;
      open_still = x.open_still;
      begun = x.begun;
      in_hand = subst (λ (rs : List (Request (List ℕ))). InHand c.stream.direct c.hand x.begun (requests_in x.messages) rs) (sym same) x.in_hand;
      given_is = x.given_is;
      replies_is = x.replies_is;
      text_is = x.text_is;
    })

-- more bytes were fed
pub is_fed : (c : CodecState) (stream : StreamState) (fed held : List ℕ) → stream ≡ record c.stream { fed = fed; held = held } → IsCodec c
    → IsCodec (record c { stream = stream })
is_fed c stream fed held same is =
    λ sound. (
      moved c stream (ap (λ (s : StreamState). s.direct) same) (ap (λ (s : StreamState). s.requests) same) (is sound).0,
      λ aborts. (is sound).1 (sym (ap (λ (s : StreamState). s.state) same) ∙ aborts),
    )

-- a codec that is open has lost nothing
sound_open : (stage : CodecStage) → stage ≡ stages.Open → stage ≢ stages.Lost
sound_open stage opens = λ lost. absurd (cc (opens, lost))

-- no request has come
pub is_waiting : (c : CodecState) (stream : StreamState) → c.stage ≡ stages.Open → stream.direct ≡ c.stream.direct → IsNext c.stream stream nexts.Nothing → IsCodec c
    → IsCodec (record c { stream = stream })
is_waiting c stream opens direct next is = λ sound. (moved c stream direct next.0 (is sound).0, λ aborts. absurd (cc (aborts, next.1)))

-- a request was taken in hand
pub is_taken : (c : CodecState) (stream : StreamState) (asked : Asked) (stays : Bool) (h : Hand) → c.stage ≡ stages.Open → c.hand ≡ None → stream.direct ≡ c.stream.direct → IsNext c.stream stream (nexts.Request asked stays)
    → h.asks ≡ asked.asks → h.head_alone ≡ asked.head_alone → h.lines ≡ asked.lines → IsCodec c → IsCodec (record c { stream = stream; hand = Some h })
is_taken c stream asked stays h opens none direct next asks_are head_alone lines is =
    λ _. let x = (is (sound_open c.stage opens)).0 in
    let empty : InHand c.stream.direct None x.begun (requests_in x.messages) c.stream.requests = subst (λ (o : Option Hand). InHand c.stream.direct o x.begun (requests_in x.messages) c.stream.requests) none x.in_hand in (
      comes_as (record c { stream = stream; hand = Some h }) c.stream.direct stream.direct direct
          (record {
            messages = x.messages;
            told = x.told;
            open_still = x.open_still;
            begun = x.begun;
            in_hand = record {
              request = next.0.0;
              next = next.0.1 ∙ ap (λ (rs : List (Request (List ℕ))). rs ++ next.0.0 ∷ []) empty.1;
              asks = asks_are ∙ next.0.2.0;
              head_alone = head_alone ∙ next.0.2.1;
              lines = ap (λ (t : List ℕ). t ++ h.lines) empty.0 ∙ lines ∙ next.0.2.2;
            };
            given_is = x.given_is;
            replies_is = x.replies_is;
            text_is = x.text_is;
          }),
      next.1,
    )

-- bytes of lines were given of the request in hand
hand_given : (direct : Bool) (h h' : Hand) (begun bytes : List ℕ) (earlier requests : List (Request (List ℕ))) → h'.asks ≡ h.asks → h'.head_alone ≡ h.head_alone → h.lines ≡ bytes ++ h'.lines
    → HasRequest direct h begun earlier requests → HasRequest direct h' (begun ++ bytes) earlier requests
hand_given direct h h' begun bytes earlier requests asks_are head_alone lines r = record {
  request = r.request;
  next = r.next;
  asks = asks_are ∙ r.asks;
  head_alone = head_alone ∙ r.head_alone;
  lines = append_assoc begun bytes h'.lines ∙ ap (λ (t : List ℕ). begun ++ t) (sym lines) ∙ r.lines;
}

pub is_given : (c : CodecState) (h h' : Hand) (given bytes : List ℕ) → c.hand ≡ Some h → h'.asks ≡ h.asks → h'.head_alone ≡ h.head_alone → h.lines ≡ bytes ++ h'.lines → given ≡ c.given ++ bytes
    → IsCodec c → IsCodec (record c { hand = Some h'; given = given })
is_given c h h' given bytes some asks_are head_alone lines gives is =
    λ sound. let x = (is sound).0 in
    let held : HasRequest c.stream.direct h x.begun (requests_in x.messages) c.stream.requests = subst (λ (o : Option Hand). InHand c.stream.direct o x.begun (requests_in x.messages) c.stream.requests) some x.in_hand in (
      record {
        messages = x.messages;
        told = x.told;
        open_still = x.open_still;
        begun = x.begun ++ bytes;
        in_hand = hand_given c.stream.direct h h' x.begun bytes (requests_in x.messages) c.stream.requests asks_are head_alone lines held;
        given_is = gives ∙ ap (λ (t : List ℕ). t ++ bytes) x.given_is ∙ append_assoc (lines_in x.messages) x.begun bytes;
        replies_is = x.replies_is;
        text_is = x.text_is;
      },
      (is sound).1,
    )

-- replies were taken
pub is_replied : (c : CodecState) (replies gathered more : List ℕ) → replies ≡ c.replies ++ more → gathered ≡ c.gathered ++ more → IsCodec c → IsCodec (record c { replies = replies; gathered = gathered })
is_replied c replies gathered more grows gathers is =
    λ sound. let x = (is sound).0 in (
      record {
        messages = x.messages;
        told = x.told;
        open_still = x.open_still;
        begun = x.begun;
        in_hand = x.in_hand;
        given_is = x.given_is;
        replies_is = grows ∙ ap (λ (t : List ℕ). t ++ more) x.replies_is ∙ append_assoc (replies_in x.messages) c.gathered more ∙ ap (λ (t : List ℕ). replies_in x.messages ++ t) (sym gathers);
        text_is = x.text_is;
      },
      (is sound).1,
    )

-- a text was written after the earlier messages
text_told : (sent items items' text before : List ℕ) (gone : ℕ) → gone ≤ length items → items' ≡ items ++ text → sent ++ drop gone items ≡ before → sent ++ drop gone items' ≡ before ++ text
text_told sent items items' text before gone within more is =
    ap (λ (t : List ℕ). sent ++ drop gone t) more ∙ told_more sent items text gone within ∙ ap (λ (t : List ℕ). t ++ text) is

-- the sender of a request was invited to send its body
pub is_invited : (c : CodecState) (stream : StreamState) (stage : CodecStage) (gone : ℕ) (items items' : List ℕ) → c.stage ≡ stages.Open → c.unsent ≡ drop gone items → gone ≤ length items → stream.direct ≡ c.stream.direct
    → IsNext c.stream stream nexts.Invitation → Tells items items' invitation_text stages.Open stage → IsCodec c → IsCodec (record c { stage = stage; stream = stream; unsent = drop gone items' })
is_invited c stream stage gone items items' opens unsent within direct next (inr t) is = is_lost (record c { stage = stage; stream = stream; unsent = drop gone items' }) t.1
is_invited c stream stage gone items items' opens unsent within direct next (inl t) is =
    λ _. let x = (is (sound_open c.stage opens)).0 in (
      comes_as (record c { stage = stage; stream = stream; unsent = drop gone items' }) c.stream.direct stream.direct direct
          (record {
            messages = specs.invitation ∷ x.messages;
            told = (x.open_still opens, x.told);
            open_still = λ _. tt;
            begun = x.begun;
            in_hand = subst (λ (rs : List (Request (List ℕ))). InHand c.stream.direct c.hand x.begun (requests_in x.messages) rs) (sym next.0) x.in_hand;
            given_is = x.given_is;
            replies_is = x.replies_is;
            text_is = text_told c.sent items items' invitation_text (text_of c.stream.direct x.messages) gone within t.0 (ap (λ (u : List ℕ). c.sent ++ u) (sym unsent) ∙ x.text_is);
          }),
      λ aborts. absurd (cc (aborts, next.1)),
    )

-- a request was refused
refused : (c : CodecState) (fault : Fault) (stage : CodecStage) (gone : ℕ) (items items' : List ℕ) → c.stage ≡ stages.Open → c.unsent ≡ drop gone items → gone ≤ length items
    → Tells items items' (response_text (asks.Refused fault) false false []) stages.Closing stage → c.stream.state ≢ states.Aborted → Carries c.stream.direct c → IsCodec (record c { stage = stage; unsent = drop gone items' })
refused c fault stage gone items items' opens unsent within (inr t) sound x = is_lost (record c { stage = stage; unsent = drop gone items' }) t.1
refused c fault stage gone items items' opens unsent within (inl t) sound x =
    λ _. (
      record {
        messages = specs.refusal fault ∷ x.messages;
        told = (x.open_still opens, x.told);
        open_still = λ now. absurd (cc (now, t.1));
        begun = x.begun;
        in_hand = x.in_hand;
        given_is = x.given_is;
        replies_is = x.replies_is;
        text_is = text_told c.sent items items' (response_text (asks.Refused fault) false false []) (text_of c.stream.direct x.messages) gone within t.0 (ap (λ (u : List ℕ). c.sent ++ u) (sym unsent) ∙ x.text_is);
      },
      sound,
    )

pub is_refused : (c : CodecState) (fault : Fault) (stage : CodecStage) (gone : ℕ) (items items' : List ℕ) → c.stage ≡ stages.Open → c.unsent ≡ drop gone items → gone ≤ length items
    → Tells items items' (response_text (asks.Refused fault) false false []) stages.Closing stage → IsCodec c → IsCodec (record c { stage = stage; unsent = drop gone items' })
is_refused c fault stage gone items items' opens unsent within t is =
    let x = is (sound_open c.stage opens) in refused c fault stage gone items items' opens unsent within t x.1 x.0

pub is_unreadable : (c : CodecState) (stream : StreamState) (fault : Fault) (stage : CodecStage) (gone : ℕ) (items items' : List ℕ) → c.stage ≡ stages.Open → c.unsent ≡ drop gone items → gone ≤ length items → stream.direct ≡ c.stream.direct
    → IsNext c.stream stream (nexts.Refused fault) → Tells items items' (response_text (asks.Refused fault) false false []) stages.Closing stage → IsCodec c
    → IsCodec (record c { stage = stage; stream = stream; unsent = drop gone items' })
is_unreadable c stream fault stage gone items items' opens unsent within direct next t is =
    refused (record c { stream = stream }) fault stage gone items items' opens unsent within t (λ aborts. let closing = next.1.1 in absurd (cc (aborts, closing)))
    (moved c stream direct next.0 (is (sound_open c.stage opens)).0)

-- an open codec leaves the connection open
stays_open : (stays : Bool) (stage : CodecStage) → stage ≡ cond stays stages.Open stages.Closing → stage ≡ stages.Open → stays ≡ true
stays_open true stage is opens = refl
stays_open false stage is opens = absurd (cc (is, opens))

-- a request was responded to
pub is_responded : (c : CodecState) (h : Hand) (ended stays : Bool) (stage : CodecStage) (gone : ℕ) (items items' : List ℕ) → c.stage ≡ stages.Open → c.hand ≡ Some h → c.unsent ≡ drop gone items → gone ≤ length items
    → AnswersLines c.given c.replies ended → (ended ≡ false → h.lines ≡ []) → (ended ≡ true → stays ≡ false)
    → items' ≡ items ++ response_text h.asks h.head_alone stays c.gathered → stage ≡ cond stays stages.Open stages.Closing
    → (gathered : List ℕ) → gathered ≡ [] → IsCodec c → IsCodec (record c { stage = stage; hand = None; gathered = gathered; unsent = drop gone items' })
is_responded c h ended stays stage gone items items' opens some unsent within answers whole closes told stands gathered none is =
    λ _. let x = (is (sound_open c.stage opens)).0 in
    let held : HasRequest c.stream.direct h x.begun (requests_in x.messages) c.stream.requests = subst (λ (o : Option Hand). InHand c.stream.direct o x.begun (requests_in x.messages) c.stream.requests) some x.in_hand in
    let e : Exchange = record { request = held.request; lines = x.begun; left = h.lines; replies = c.gathered; ended = ended; stays = stays } in
    let its_own : response_text h.asks h.head_alone stays c.gathered ≡ message_text c.stream.direct (specs.response e) = λ i. response_text (held.asks i) (held.head_alone i) stays c.gathered in (
      record {
        messages = specs.response e ∷ x.messages;
        told = (
          x.open_still opens,
          record { lines = held.lines; whole = whole; closes = closes },
          subst (λ (g : List ℕ). AnswersLines g (replies_in x.messages ++ c.gathered) ended) x.given_is (subst (λ (r : List ℕ). AnswersLines c.given r ended) x.replies_is answers),
          x.told,
        );
        open_still = λ now. stays_open stays stage stands now;
        begun = [];
        in_hand = (refl, held.next);
        given_is = x.given_is ∙ sym (append-nil (lines_in x.messages ++ x.begun));
        replies_is = x.replies_is ∙ sym (append-nil (replies_in x.messages ++ c.gathered)) ∙ ap (λ (t : List ℕ). (replies_in x.messages ++ c.gathered) ++ t) (sym none);
        text_is = text_told c.sent items items' (message_text c.stream.direct (specs.response e)) (text_of c.stream.direct x.messages) gone within (told ∙ ap (λ (t : List ℕ). items ++ t) its_own)
            (ap (λ (u : List ℕ). c.sent ++ u) (sym unsent) ∙ x.text_is);
      },
      (is (sound_open c.stage opens)).1,
    )

-- unsent bytes were sent
pub is_sent : (c : CodecState) (sent unsent : List ℕ) → sent ++ unsent ≡ c.sent ++ c.unsent → IsCodec c → IsCodec (record c { sent = sent; unsent = unsent })
is_sent c sent unsent same is =
    λ sound. let x = (is sound).0 in (
      record {
        messages = x.messages;
        told = x.told;
        open_still = x.open_still;
        begun = x.begun;
        in_hand = x.in_hand;
        given_is = x.given_is;
        replies_is = x.replies_is;
        text_is = same ∙ x.text_is;
      },
      (is sound).1,
    )

-- the unsent bytes alone have grown
pub goes_on : (old new : CodecState) (text : List ℕ) → new.stream.fed ≡ old.stream.fed → new.replies ≡ old.replies → new.sent ≡ old.sent → new.unsent ≡ old.unsent ++ text → GoesOn old new
goes_on old new text fed replies sent unsent = record { fed = fed; replies = replies; sent = sent; text = text; unsent = unsent }

pub goes_on_still : (old new : CodecState) → new.stream.fed ≡ old.stream.fed → new.replies ≡ old.replies → new.sent ≡ old.sent → new.unsent ≡ old.unsent → GoesOn old new
goes_on_still old new fed replies sent unsent = goes_on old new [] fed replies sent (unsent ∙ sym (append-nil old.unsent))

-- the unsent bytes may have grown by a text
pub goes_on_told : (old new : CodecState) (gone : ℕ) (items items' text : List ℕ) (stands stage : CodecStage) → gone ≤ length items → new.stream.fed ≡ old.stream.fed → new.replies ≡ old.replies → new.sent ≡ old.sent
    → old.unsent ≡ drop gone items → new.unsent ≡ drop gone items' → Tells items items' text stands stage → GoesOn old new
goes_on_told old new gone items items' text stands stage within fed replies sent was now (inl t) =
    goes_on old new text fed replies sent (now ∙ ap (λ (i : List ℕ). drop gone i) t.0 ∙ unsent_more gone items text within ∙ ap (λ (u : List ℕ). u ++ text) (sym was))
goes_on_told old new gone items items' text stands stage within fed replies sent was now (inr t) =
    goes_on_still old new fed replies sent (now ∙ ap (λ (i : List ℕ). drop gone i) t.0 ∙ sym was)

-- a read gave lines of the request in hand, or none
pub is_read : (c : CodecState) (old hand : Option Hand) (given bytes : List ℕ) → c.hand ≡ old → HandGives old hand bytes → given ≡ c.given ++ bytes → IsCodec c → IsCodec (record c { hand = hand; given = given })
is_read c (Some h) (Some h') given bytes was gives more is = is_given c h h' given bytes was gives.1 gives.2 gives.0 more is
is_read c (Some h) None given bytes was gives more is = absurd gives
is_read c None (Some h') given bytes was gives more is = absurd gives
is_read c None None given bytes was gives more is =
    λ sound. let x = (is sound).0 in (
      record {
        messages = x.messages;
        told = x.told;
        open_still = x.open_still;
        begun = x.begun;
        in_hand = subst (λ (o : Option Hand). InHand c.stream.direct o x.begun (requests_in x.messages) c.stream.requests) was x.in_hand;
        given_is = more ∙ ap (λ (t : List ℕ). c.given ++ t) gives ∙ append-nil c.given ∙ x.given_is;
        replies_is = x.replies_is;
        text_is = x.text_is;
      },
      (is sound).1,
    )

-- the result of a read, by the bytes that it gave
pub decodes : (old new : CodecState) (buffer : List ℕ) (d : Decoded) → Fits d buffer → GoesOn old new → new.given ≡ old.given ++ bytes_given d buffer → Decodes old new buffer d
decodes old new buffer (decoded.Lines count) fits goes given = (goes, fits, given)
decodes old new buffer decoded.Whole fits goes given = (goes, given ∙ append-nil old.given)
decodes old new buffer decoded.Nothing fits goes given = (goes, given ∙ append-nil old.given)
decodes old new buffer decoded.Over fits goes given = (goes, given ∙ append-nil old.given)

-- two steps together
goes_on_twice : (old mid new : CodecState) → GoesOn old mid → GoesOn mid new → GoesOn old new
goes_on_twice old mid new x y = record {
  fed = y.fed ∙ x.fed;
  replies = y.replies ∙ x.replies;
  sent = y.sent ∙ x.sent;
  text = x.text ++ y.text;
  unsent = y.unsent ∙ ap (λ (t : List ℕ). t ++ y.text) x.unsent ∙ append_assoc old.unsent x.text y.text;
}

pub decodes_later : (old mid new : CodecState) (buffer : List ℕ) (d : Decoded) → GoesOn old mid → mid.given ≡ old.given → Decodes mid new buffer d → Decodes old new buffer d
decodes_later old mid new buffer (decoded.Lines count) goes same x = (goes_on_twice old mid new goes x.0, x.1, x.2 ∙ ap (λ (t : List ℕ). t ++ take count buffer) same)
decodes_later old mid new buffer decoded.Whole goes same x = (goes_on_twice old mid new goes x.0, x.1 ∙ same)
decodes_later old mid new buffer decoded.Nothing goes same x = (goes_on_twice old mid new goes x.0, x.1 ∙ same)
decodes_later old mid new buffer decoded.Over goes same x = (goes_on_twice old mid new goes x.0, x.1 ∙ same)

-- the sent bytes are still among the written ones after a message
pub tells_within : (gone : ℕ) (items items' text : List ℕ) (stands stage : CodecStage) → gone ≤ length items → Tells items items' text stands stage → gone ≤ length items'
tells_within gone items items' text stands stage within (inr t) = subst (λ (i : List ℕ). gone ≤ length i) (sym t.0) within
tells_within gone items items' text stands stage within (inl t) =
    let more = length-append items text in
    subst (λ (i : List ℕ). gone ≤ length i) (sym t.0) (omega (arith, more, within))

-- a request was responded to, by the result of the write
pub is_told : (c : CodecState) (h : Hand) (ended stays : Bool) (stage : CodecStage) (gone : ℕ) (items items' replies gathered : List ℕ) → c.stage ≡ stages.Open → c.hand ≡ Some h → c.unsent ≡ drop gone items → gone ≤ length items
    → AnswersLines c.given c.replies ended → (ended ≡ false → h.lines ≡ []) → (ended ≡ true → stays ≡ false) → replies ≡ c.gathered
    → Tells items items' (response_text h.asks h.head_alone stays replies) (cond stays stages.Open stages.Closing) stage → stage ≢ stages.Lost → gathered ≡ []
    → IsCodec c → IsCodec (record c { stage = stage; hand = None; gathered = gathered; unsent = drop gone items' })
is_told c h ended stays stage gone items items' replies gathered opens some unsent within answers whole closes these (inl t) sound none is =
    is_responded c h ended stays stage gone items items' opens some unsent within answers whole closes (t.0 ∙ ap (λ (r : List ℕ). items ++ response_text h.asks h.head_alone stays r) these) t.1 gathered none is
is_told c h ended stays stage gone items items' replies gathered opens some unsent within answers whole closes these (inr t) sound none is = absurd (sound t.1)
