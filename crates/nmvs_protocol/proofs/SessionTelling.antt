-- The release of withheld answers, and their writing: gathered, broken off, and handed on.
use Rattle.std.proofs.Common.{◌≡◌, ◌≢◌, ◌==◌, ℕ, Bool, true, false, cond, List, [], ◌∷◌, ◌++◌, All, Option, Some, None, Result, Ok, Err, length, map, refl, sym, ap, ◌∙◌, subst, inl, inr, arith}
use Rattle.std.proofs.lemmas.List.{append-nil, append_assoc, map-append}
use Rattle.std.proofs.lemmas.List.Elements.{All-append, All-cons, All-nil, All-tail}
use Rattle.std.proofs.lemmas.Grind.{flat_map-append}
use Rattle.nmvs_stream.specs.Sink.{Taken, Flushes, FailsToTake}
use Rattle.std.specs.Prelude.{OnOk, OnErr}
use Rattle.nmvs_stream.specs.Delivery.{Writes, DeliversPart}
use Rattle.nmvs_messages.specs.declared.ask.Line.TheVariants as lines
use Rattle.nmvs_messages.specs.declared.answer.Answer.{Answer}
use Rattle.nmvs_messages.specs.declared.answer.Content.{Content}
use Rattle.nmvs_messages.specs.declared.answer.Content.TheVariants as contents
use Rattle.nmvs_messages.specs.declared.withheld.Withheld.{Withheld}
use Rattle.nmvs_messages.specs.declared.end.End.{End}
use Rattle.nmvs_messages.specs.declared.end.End.TheVariants as ends
use Rattle.nmvs_protocol.specs.Lines.{line_text}
use Rattle.nmvs_protocol.specs.Texts.{bare, content_text, ends_with_reply, last_showing, showing, text}
use Rattle.nmvs_messages.specs.Tags.{tag_text}
use Rattle.nmvs_words.specs.Words.{spaced}
use Rattle.nmvs_messages.specs.Words.{reply_words}
use Rattle.std.specs.Option.{is_some}
use Rattle.nmvs_messages.specs.Withheld.{answer_of, content_shown, is_from_repository, is_of_repository, shown_text, text_left, AreReleased, StaysOrTurns}
use Rattle.nmvs_protocol.specs.Session.{ReleasesAll, NoQuit, NoQuitBeforeLast, session_text}
use Rattle.nmvs_protocol.specs.Progress.{LastShows, Gathers, Delivered, Tells, TellsWithheld, Stands, has_write_fault}

-- one more line that is not QUIT
pub no_quit_more : (xs : List (List ℕ)) (x : List ℕ) → NoQuit xs → x ≢ line_text lines.Quit → NoQuit (xs ++ x ∷ [])
no_quit_more xs x none other = All-append (λ (y : List ℕ). y ≢ line_text lines.Quit) xs (x ∷ []) none (All-cons (λ (y : List ℕ). y ≢ line_text lines.Quit) x [] other (All-nil (λ (y : List ℕ). y ≢ line_text lines.Quit)))

-- a withheld answer shows no entry
abbrev pub ShowsNone : Withheld → Type 0
ShowsNone w = shown_text w ≡ []

-- the text of a content with lines that follow it: that of the content without them, and then that of the lines
worded_shown : (c : Content) (shown : List ℕ) → content_text (showing shown c) ≡ content_text (showing [] c) ++ cond (is_from_repository c) shown []
unfolding content_text
worded_shown (contents.Replied r s) shown = ap (λ (t : List ℕ). t ++ shown) (sym (append-nil (spaced (reply_words r))))
worded_shown (contents.Reported first s) shown = ap (λ (t : List ℕ). t ++ shown) (sym (append-nil first))
worded_shown (contents.Turned turn) shown = sym (append-nil _)
worded_shown (contents.Unread fault) shown = sym (append-nil _)
worded_shown contents.Pong shown = sym (append-nil _)
worded_shown contents.Version shown = sym (append-nil _)
worded_shown contents.Help shown = sym (append-nil _)
worded_shown contents.Bye shown = sym (append-nil _)

text_shown : (a : Answer) (shown : List ℕ) → text (record a { content = showing shown a.content }) ≡ text (bare a) ++ cond (is_of_repository a) shown []
unfolding text
text_shown a shown =
    ap (λ (t : List ℕ). tag_text a.tag ++ t) (worded_shown a.content shown)
    ∙ sym (append_assoc (tag_text a.tag) (content_text (showing [] a.content)) (cond (is_of_repository a) shown []))

-- the text of answers, the last of which shows entries
pub session_text_last : (shown : List ℕ) (said : List Answer) → session_text (last_showing shown said) ≡ session_text (map bare said) ++ cond (ends_with_reply said) shown []
session_text_last shown [] = refl
session_text_last shown (a ∷ []) =
    append-nil (text (record a { content = showing shown a.content })) ∙ text_shown a shown ∙ ap (λ (t : List ℕ). t ++ cond (is_of_repository a) shown []) (sym (append-nil (text (bare a))))
session_text_last shown (a ∷ b ∷ more) =
    ap (λ (t : List ℕ). text (bare a) ++ t) (session_text_last shown (b ∷ more)) ∙ sym (append_assoc (text (bare a)) (session_text (map bare (b ∷ more))) (cond (ends_with_reply (b ∷ more)) shown []))

-- a content that shows a text stays the same if it shows that text
showing_same : (c : Content) (shown : List ℕ) → content_shown c ≡ shown → showing shown c ≡ c
showing_same (contents.Replied r s) shown is = ap (λ (t : List ℕ). contents.Replied r t) (sym is)
showing_same (contents.Reported first s) shown is = ap (λ (t : List ℕ). contents.Reported first t) (sym is)
showing_same (contents.Turned turn) shown is = refl
showing_same (contents.Unread fault) shown is = refl
showing_same contents.Pong shown is = refl
showing_same contents.Version shown is = refl
showing_same contents.Help shown is = refl
showing_same contents.Bye shown is = refl

answer_same : (a : Answer) (shown : List ℕ) → content_shown a.content ≡ shown → record a { content = showing shown a.content } ≡ a
answer_same a shown is = ap (λ (c : Content). record a { content = c }) (showing_same a.content shown is)

-- without a list no entry is left
pub none_left : {L : Type 0} (left : L → List ℕ) (list : Option L) → is_some list ≡ false → text_left left list ≡ []
none_left left None none = refl
none_left left (Some l) none = absurd (cc none)

-- answers that show no entry, and one more
pub last_shows : (withheld : List Withheld) (w : Withheld) (shown : List ℕ) → All ShowsNone withheld → shown_text w ≡ shown → LastShows shown (map answer_of (withheld ++ w ∷ []))
last_shows [] w shown none is = ap (λ (a : Answer). a ∷ []) (answer_same w.answer shown is)
last_shows (h ∷ []) w shown none is =
    (λ i. answer_same h.answer [] (none 0 h (omega arith)) i ∷ answer_same w.answer shown is i ∷ [])
last_shows (h ∷ g ∷ withheld) w shown none is =
    (λ i. answer_same h.answer [] (none 0 h (omega arith)) i ∷ last_shows (g ∷ withheld) w shown (All-tail ShowsNone h (g ∷ withheld) none) is i)

pub none_shows : (withheld : List Withheld) → All ShowsNone withheld → LastShows [] (map answer_of withheld)
none_shows [] none = refl
none_shows (h ∷ []) none = ap (λ (a : Answer). a ∷ []) (answer_same h.answer [] (none 0 h (omega arith)))
none_shows (h ∷ g ∷ withheld) none =
    (λ i. answer_same h.answer [] (none 0 h (omega arith)) i ∷ none_shows (g ∷ withheld) (All-tail ShowsNone h (g ∷ withheld) none) i)

-- a release leaves to each answer the entries that it shows, or turns its line away
stays_showing : (w : Withheld) (a : Answer) (shown : List ℕ) → StaysOrTurns w a → record w.answer { content = showing shown w.answer.content } ≡ w.answer → record a { content = showing shown a.content } ≡ a
stays_showing w a shown (inl e) is = subst (λ (b : Answer). record b { content = showing shown b.content } ≡ b) (sym e) is
stays_showing w a shown (inr turns) is = subst (λ (b : Answer). record b { content = showing shown b.content } ≡ b) (sym turns.2) refl

pub released_shows : (releases : Withheld → Answer → Type 0) (shown : List ℕ) (withheld : List Withheld) (said : List Answer) → AreReleased releases withheld said → LastShows shown (map answer_of withheld)
    → LastShows shown said
released_shows releases shown [] [] r is = refl
released_shows releases shown (w ∷ []) (a ∷ []) r is = ap (λ (b : Answer). b ∷ []) (stays_showing w a shown r.1 (cc is))
released_shows releases shown (w ∷ v ∷ withheld) (a ∷ b ∷ said) r is =
    let first : bare w.answer ≡ w.answer = cc is in
    let rest : LastShows shown (map answer_of (v ∷ withheld)) = cc is in
    (λ i. stays_showing w a [] r.1 first i ∷ released_shows releases shown (v ∷ withheld) (b ∷ said) r.2 rest i)
released_shows releases shown (w ∷ v ∷ withheld) (a ∷ []) r is = absurd r.2
released_shows releases shown (w ∷ []) (a ∷ b ∷ said) r is = absurd r.2
released_shows releases shown [] (a ∷ said) r is = absurd r
released_shows releases shown (w ∷ withheld) [] r is = absurd r

-- the text of the answers without entries, and then that of the entries
pub told_last : (shown : List ℕ) (said : List Answer) (replied : Bool) → replied ≡ ends_with_reply said → LastShows shown said → session_text (map bare said) ++ cond replied shown [] ≡ session_text said
told_last shown said replied is shows = ap (λ (b : Bool). session_text (map bare said) ++ cond b shown []) is ∙ sym (session_text_last shown said) ∙ ap session_text shows

-- the result of writing some withheld answers
pub told_withheld : {D : Type 0} (releases : D → D → Withheld → Answer → Type 0) (moves : D → D → Type 0) (shown : List ℕ) (withheld : List Withheld) (old new : D) (said : List Answer) (end : Option End) (sink sink' : Taken)
    → (length withheld == 0) ≡ false → moves old new → AreReleased (releases old new) withheld said → (LastShows shown said → Tells end sink sink' said) → TellsWithheld releases moves shown withheld old new end sink sink'
told_withheld releases moves shown [] old new said end sink sink' some m r told = absurd (cc some)
told_withheld releases moves shown (w ∷ withheld) old new said end sink sink' some m r told =
    (said, (m, r), λ shows. told (released_shows (releases old new) shown (w ∷ withheld) said r shows))

-- the result of writing the withheld answers, if there are any
pub told_of : {D : Type 0} (releases : D → D → Withheld → Answer → Type 0) (moves : D → D → Type 0) (shown : List ℕ) (withheld : List Withheld) (old new : D) (end : Option End) (sink sink' : Taken)
    → TellsWithheld releases moves shown withheld old new end sink sink' → (said : List Answer) × ReleasesAll releases moves old withheld said new × (LastShows shown (map answer_of withheld) → Tells end sink sink' said)
told_of releases moves shown [] old new end sink sink' t = (
  [],
  (refl, t.0),
  λ shows. subst (λ (e : Option End). Tells e sink sink' []) (sym t.1)
      (subst (λ (s : Taken). Gathers sink s []) (sym t.2) (record { bytes = sym (append-nil sink.bytes); flushed = λ none. refl; failed = refl })),
)
told_of releases moves shown (w ∷ withheld) old new end sink sink' t = t

-- there is an answer for each withheld one
released_length : (releases : Withheld → Answer → Type 0) (withheld : List Withheld) (said : List Answer) → AreReleased releases withheld said → length said ≡ length withheld
released_length releases [] [] r = refl
released_length releases (w ∷ withheld) (a ∷ said) r = let n = released_length releases withheld said r.2 in omega arith
released_length releases [] (a ∷ said) r = absurd r
released_length releases (w ∷ withheld) [] r = absurd r

pub all_length : {D : Type 0} (releases : D → D → Withheld → Answer → Type 0) (moves : D → D → Type 0) (old new : D) (withheld : List Withheld) (said : List Answer)
    → ReleasesAll releases moves old withheld said new → length said ≡ length withheld
all_length releases moves old new [] said r = ap (λ (l : List Answer). length l) r.0
all_length releases moves old new (w ∷ withheld) said r = released_length (releases old new) (w ∷ withheld) said r.1

-- each is released
pub all_released : {D : Type 0} (releases : D → D → Withheld → Answer → Type 0) (moves : D → D → Type 0) (old new : D) (withheld : List Withheld) (said : List Answer)
    → ReleasesAll releases moves old withheld said new → AreReleased (releases old new) withheld said
all_released releases moves old new [] said r = subst (λ (l : List Answer). AreReleased (releases old new) [] l) (sym r.0) tt
all_released releases moves old new (w ∷ withheld) said r = r.1

none_before : (xs ys : List ℕ) → xs ++ ys ≡ [] → xs ≡ []
none_before [] ys e = refl
none_before (x ∷ xs) ys e = absurd (cc e)

none_after : (xs ys : List ℕ) → xs ++ ys ≡ [] → ys ≡ []
none_after [] ys e = e
none_after (x ∷ xs) ys e = absurd (cc e)

-- a text after a text
pub writes_more : (old mid new : Taken) (p q : List ℕ) → Writes old mid p → Writes mid new q → Writes old new (p ++ q)
writes_more old mid new p q a b = record {
  bytes = b.bytes ∙ ap (λ (t : List ℕ). t ++ q) a.bytes ∙ append_assoc old.bytes p q;
  flushed = λ none. b.flushed (none_after p q none) ∙ a.flushed (none_before p q none);
  failed = b.failed ∙ a.failed;
}

-- a failed write after a text
pub part_more : (old mid new : Taken) (p q : List ℕ) → Writes old mid p → DeliversPart mid new q → DeliversPart old new (p ++ q)
part_more old mid new p q a b = record {
  written = p ++ b.written;
  unwritten = b.unwritten;
  cut = ap (λ (t : List ℕ). p ++ t) b.cut ∙ sym (append_assoc p b.written b.unwritten);
  bytes = b.bytes ∙ ap (λ (t : List ℕ). t ++ b.written) a.bytes ∙ append_assoc old.bytes p b.written;
  flushed = λ none. b.flushed (none_after p b.written none) ∙ a.flushed (none_before p b.written none);
  failed = b.failed;
}

-- a failed write within a longer text
pub part_of : (old new : Taken) (p q : List ℕ) → DeliversPart old new p → DeliversPart old new (p ++ q)
part_of old new p q t = record {
  written = t.written;
  unwritten = t.unwritten ++ q;
  cut = ap (λ (u : List ℕ). u ++ q) t.cut ∙ append_assoc t.written t.unwritten q;
  bytes = t.bytes;
  flushed = t.flushed;
  failed = t.failed;
}

-- the result of a call that fails
pub on_err : {T E P : Type 0} (r : Result T E) → P → OnErr r P
on_err (Ok t) p = tt
on_err (Err e) p = p

-- the result of the second of two writes
pub both_ok : {T E : Type 0} (r : Result T E) (old mid new : Taken) (p q : List ℕ) → Writes old mid p → OnOk r (Writes mid new q) → OnOk r (Writes old new (p ++ q))
both_ok (Ok t) old mid new p q a b = writes_more old mid new p q a b
both_ok (Err e) old mid new p q a b = tt

pub both_err : {T E : Type 0} (r : Result T E) (old mid new : Taken) (p q : List ℕ) → Writes old mid p → OnErr r (DeliversPart mid new q) → OnErr r (DeliversPart old new (p ++ q))
both_err (Ok t) old mid new p q a b = tt
both_err (Err e) old mid new p q a b = part_more old mid new p q a b

-- texts after texts
pub gathers_more : (old mid new : Taken) (before more : List Answer) → Gathers old mid before → Gathers mid new more → Gathers old new (before ++ more)
gathers_more old mid new before more a b =
    subst (λ (t : List ℕ). Writes old new t) (sym (flat_map-append text before more)) (writes_more old mid new (session_text before) (session_text more) a b)

-- a failed write after what was gathered
breaks_after : (old mid new : Taken) (before more : List Answer) → Gathers old mid before → DeliversPart mid new (session_text more) → DeliversPart old new (session_text (before ++ more))
breaks_after old mid new before more a b =
    subst (λ (t : List ℕ). DeliversPart old new t) (sym (flat_map-append text before more)) (part_more old mid new (session_text before) (session_text more) a b)

-- the answers without entries are written, or the first of them and a part of the next
pub bare_more : (old mid new : Taken) (before : List Answer) (a : Answer) → Gathers old mid (map bare before) → Writes mid new (text (bare a)) → Gathers old new (map bare (before ++ a ∷ []))
bare_more old mid new before a g w =
    subst (λ (l : List Answer). Gathers old new l) (sym (map-append bare before (a ∷ [])))
    (gathers_more old mid new (map bare before) (bare a ∷ []) g (subst (λ (t : List ℕ). Writes mid new t) (sym (append-nil (text (bare a)))) w))

pub bare_broken : (old mid new : Taken) (before : List Answer) (a : Answer) (later : List Answer) → Gathers old mid (map bare before) → DeliversPart mid new (text (bare a)) → DeliversPart old new (session_text (map bare (before ++ a ∷ later)))
bare_broken old mid new before a later g w =
    subst (λ (l : List Answer). DeliversPart old new (session_text l)) (sym (map-append bare before (a ∷ later)))
    (breaks_after old mid new (map bare before) (bare a ∷ map bare later) g (part_of mid new (text (bare a)) (session_text (map bare later)) w))

-- the last answer decides
pub ends_push : (before : List Answer) (a : Answer) → ends_with_reply (before ++ a ∷ []) ≡ is_of_repository a
ends_push [] a = refl
ends_push (b ∷ []) a = refl
ends_push (b ∷ c ∷ before) a = ends_push (c ∷ before) a

-- a text that is written piece by piece, and a write that fails within a piece
pub piece_cut : (before piece left left' all : List ℕ) → before ++ left ≡ all → piece ++ left' ≡ left → (before ++ piece) ++ left' ≡ all
piece_cut before piece left left' all whole cut = append_assoc before piece left' ∙ ap (λ (t : List ℕ). before ++ t) cut ∙ whole

pub piece_broken : (old mid new : Taken) (before piece left left' all : List ℕ) → before ++ left ≡ all → piece ++ left' ≡ left
    → Writes old mid before → DeliversPart mid new piece → DeliversPart old new all
piece_broken old mid new before piece left left' all whole cut a b =
    subst (λ (t : List ℕ). DeliversPart old new t) (ap (λ (t : List ℕ). before ++ t) cut ∙ whole) (part_more old mid new before (piece ++ left') a (part_of mid new piece left' b))

-- the entries are written after the answers, whose text is then whole
pub tells_whole : (old mid new : Taken) (shown : List ℕ) (said : List Answer) (replied : Bool) → replied ≡ ends_with_reply said → Gathers old mid (map bare said) → Writes mid new (cond replied shown []) → LastShows shown said → Gathers old new said
tells_whole old mid new shown said replied is g w shows = subst (λ (t : List ℕ). Writes old new t) (told_last shown said replied is shows) (writes_more old mid new (session_text (map bare said)) (cond replied shown []) g w)

-- or writing breaks off within the entries
pub tells_part : (old mid new : Taken) (shown : List ℕ) (said : List Answer) (replied : Bool) → replied ≡ ends_with_reply said → Gathers old mid (map bare said) → DeliversPart mid new (cond replied shown []) → LastShows shown said → DeliversPart old new (session_text said)
tells_part old mid new shown said replied is g w shows = subst (λ (t : List ℕ). DeliversPart old new t) (told_last shown said replied is shows) (part_more old mid new (session_text (map bare said)) (cond replied shown []) g w)

-- or before them
pub tells_front : (old new : Taken) (shown : List ℕ) (said : List Answer) → DeliversPart old new (session_text (map bare said)) → LastShows shown said → DeliversPart old new (session_text said)
tells_front old new shown said w shows =
    subst (λ (t : List ℕ). DeliversPart old new t) (told_last shown said (ends_with_reply said) refl shows) (part_of old new (session_text (map bare said)) (cond (ends_with_reply said) shown []) w)

-- the result of writing answers after others
pub tells_more : (end : Option End) (old mid new : Taken) (before more : List Answer) → Gathers old mid before → Tells end mid new more → Tells end old new (before ++ more)
tells_more (None) old mid new before more a b = gathers_more old mid new before more a b
tells_more (Some ends.WriteFault) old mid new before more a b = breaks_after old mid new before more a b
tells_more (Some ends.Memory) old mid new before more a b = absurd b
tells_more (Some ends.Quit) old mid new before more a b = absurd b
tells_more (Some ends.Limit) old mid new before more a b = absurd b
tells_more (Some ends.Ended) old mid new before more a b = absurd b
tells_more (Some ends.ReadFault) old mid new before more a b = absurd b

pub tells_sound : (end : Option End) (old new : Taken) (said : List Answer) → Tells end old new said → old.failed ≡ false → new.failed ≡ has_write_fault end
tells_sound (None) old new said t sound = t.failed ∙ sound
tells_sound (Some ends.WriteFault) old new said t sound = t.failed
tells_sound (Some ends.Memory) old new said t sound = absurd t
tells_sound (Some ends.Quit) old new said t sound = absurd t
tells_sound (Some ends.Limit) old new said t sound = absurd t
tells_sound (Some ends.Ended) old new said t sound = absurd t
tells_sound (Some ends.ReadFault) old new said t sound = absurd t

-- writing broke off
pub broken : (end : End) (limit count : ℕ) (answered left : List (List ℕ)) (said : List Answer) (old new : Taken) → NoQuitBeforeLast answered → Tells (Some end) old new said
    → Stands (Some end) (Gathers old new) limit count answered left said old new
broken ends.WriteFault limit count answered left said old new quit t = (quit, t)
broken ends.Memory limit count answered left said old new quit t = absurd t
broken ends.Quit limit count answered left said old new quit t = absurd t
broken ends.Limit limit count answered left said old new quit t = absurd t
broken ends.Ended limit count answered left said old new quit t = absurd t
broken ends.ReadFault limit count answered left said old new quit t = absurd t

-- a flush hands on the gathered text
handed_on : (old mid new : Taken) (said : List Answer) → Gathers old mid said → Flushes mid new → Delivered old new said
handed_on old mid new said g f = record { bytes = f.bytes ∙ g.bytes; flushed = f.flushed; failed = f.failed ∙ g.failed }

pub flushes : (end : Option End) (limit count : ℕ) (answered left : List (List ℕ)) (said : List Answer) (old mid new : Taken)
    → has_write_fault end ≡ false → Flushes mid new → Stands end (Gathers old mid) limit count answered left said old mid → Stands end (Delivered old new) limit count answered left said old new
flushes (None) limit count answered left said old mid new none f s = (s.0, handed_on old mid new said s.1 f)
flushes (Some ends.Quit) limit count answered left said old mid new none f s = (s.0, handed_on old mid new said s.1 f)
flushes (Some ends.Limit) limit count answered left said old mid new none f s = (s.0, handed_on old mid new said s.1 f, s.2)
flushes (Some ends.Memory) limit count answered left said old mid new none f s = absurd s
flushes (Some ends.WriteFault) limit count answered left said old mid new none f s = absurd (cc none)
flushes (Some ends.Ended) limit count answered left said old mid new none f s = absurd s
flushes (Some ends.ReadFault) limit count answered left said old mid new none f s = absurd s

-- after a failed write there is nothing to hand on
pub unflushed : (end : Option End) (limit count : ℕ) (answered left : List (List ℕ)) (said : List Answer) (old new : Taken)
    → has_write_fault end ≡ true → Stands end (Gathers old new) limit count answered left said old new → Stands end (Delivered old new) limit count answered left said old new
unflushed (Some ends.WriteFault) limit count answered left said old new fault s = s
unflushed (None) limit count answered left said old new fault s = absurd (cc fault)
unflushed (Some ends.Quit) limit count answered left said old new fault s = absurd (cc fault)
unflushed (Some ends.Limit) limit count answered left said old new fault s = absurd (cc fault)
unflushed (Some ends.Memory) limit count answered left said old new fault s = absurd s
unflushed (Some ends.Ended) limit count answered left said old new fault s = absurd s
unflushed (Some ends.ReadFault) limit count answered left said old new fault s = absurd s

abbrev all_gathered : (old mid new : Taken) (said : List Answer) → Gathers old mid said → FailsToTake mid new → DeliversPart old new (session_text said)
all_gathered old mid new said g f = record {
  written = session_text said;
  unwritten = [];
  cut = sym (append-nil (session_text said));
  bytes = f.bytes ∙ g.bytes;
  flushed = λ none. f.flushed ∙ g.flushed none;
  failed = f.failed;
}

-- a failed flush
pub flush_fails : (end : Option End) (limit count : ℕ) (answered left : List (List ℕ)) (said : List Answer) (old mid new : Taken)
    → has_write_fault end ≡ false → FailsToTake mid new → Stands end (Gathers old mid) limit count answered left said old mid
    → NoQuitBeforeLast answered × DeliversPart old new (session_text said)
flush_fails (None) limit count answered left said old mid new none f s = (inl s.0.no_quit, all_gathered old mid new said s.1 f)
flush_fails (Some ends.Quit) limit count answered left said old mid new none f s = (inr s.0, all_gathered old mid new said s.1 f)
flush_fails (Some ends.Limit) limit count answered left said old mid new none f s = (inl s.0, all_gathered old mid new said s.1 f)
flush_fails (Some ends.Memory) limit count answered left said old mid new none f s = absurd s
flush_fails (Some ends.WriteFault) limit count answered left said old mid new none f s = absurd (cc none)
flush_fails (Some ends.Ended) limit count answered left said old mid new none f s = absurd s
flush_fails (Some ends.ReadFault) limit count answered left said old mid new none f s = absurd s
