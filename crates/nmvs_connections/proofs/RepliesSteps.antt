-- How the replies of a connection grow by a turn.
use Rattle.std.proofs.Common.{◌≡◌, ◌==◌, ◌≤◌, ◌<◌, ◌+◌, ◌⊎◌, inl, inr, ℕ, Bool, cond, List, [], ◌∷◌, ◌++◌, Option, Some, None, Result, Ok, Err, length, map, take, drop, refl, sym, ap, subst, ◌∙◌, arith}
use Rattle.std.proofs.lemmas.Grind.{flat_map-append}
use Rattle.std.proofs.lemmas.Bool.{cond-false, ne_eqb}
use Rattle.std.proofs.lemmas.List.{append-nil, append_assoc, length-append, length-take, drop-append-le, drop-drop, take-append-drop}
use Rattle.nmvs_messages.specs.declared.ask.Ask.{Ask}
use Rattle.nmvs_messages.specs.declared.answer.Answer.{Answer}
use Rattle.nmvs_messages.specs.declared.end.End.{End}
use Rattle.nmvs_messages.specs.declared.withheld.Withheld.{Withheld}
use Rattle.nmvs_messages.specs.declared.end.End.TheVariants as ends
use Rattle.nmvs_protocol.specs.declared.session.Session.{Session}
use Rattle.nmvs_stream.specs.InputLines.{input_lines, lines_after, rest_after, unfinished_line}
use Rattle.nmvs_messages.specs.PendingLines.{kept_part}
use Rattle.std.specs.Prelude.{OnOk, OnErr, IfOk}
use Rattle.std.specs.Result.{result_ok}
use Rattle.nmvs_stream.specs.Sink.{Taken}
use Rattle.nmvs_stream.specs.Delivery.{Writes, DeliversPart}
use Rattle.nmvs_stream.specs.declared.failed.Failed.{Failed}
use Rattle.nmvs_messages.specs.Withheld.{answer_of}
use Rattle.nmvs_protocol.specs.Progress.{Halts, LastShows}
use Rattle.nmvs_protocol.specs.Session.{TakesLines, session_text}
use Rattle.nmvs_protocol.specs.Texts.{bare, ends_with_reply, last_showing, text as text_of}
use Rattle.nmvs_protocol.proofs.SessionTelling.{session_text_last}
use Rattle.nmvs_stream.proofs.LinesOfPieces.{lines_after-append}
use Rattle.nmvs_connections.specs.Replies.{Replies, Leaves, LacksMemory, StaysOrLacks, WordsPart, GoesOn, ended_by, is_replied, once_told, while_waiting}

-- the lines that were taken have one answer each
pub taken_length : {D : Type 0} (takes : D → Ask → Withheld → D → Type 0) (old : D) (xs : List (List ℕ)) (held : List Withheld) (new : D)
    → TakesLines takes old xs held new → length held ≡ length xs
taken_length takes old [] [] new a = refl
taken_length takes old (x ∷ xs) (w ∷ held) new a = let n = taken_length takes a.0 xs held new a.2 in omega arith
taken_length takes old [] (w ∷ held) new a = absurd a
taken_length takes old (x ∷ xs) [] new a = absurd a

-- a line of which no byte is kept was not begun
pub none_kept : (x : List ℕ) → (length (kept_part x) == 0) ≡ (length x == 0)
none_kept [] = refl
none_kept (b ∷ x) =
    let n = length-take 201 (b ∷ x) in
    ne_eqb (length (kept_part (b ∷ x))) 0 (λ z. absurd (omega (arith, z, n))) ∙ sym (ne_eqb (length (b ∷ x)) 0 (λ z. absurd (omega (arith, z))))

-- no line is left if no answer is waited for
none_left : (xs : List (List ℕ)) → length xs ≡ 0 → xs ≡ []
none_left [] e = refl
none_left (x ∷ xs) e = absurd (cc e)

-- the lines that are left after lines were taken
leaves_taken : (ended : Option End) (limit count waiting : ℕ) (taken left : List (List ℕ)) (begun rest : List ℕ) → Halts ended limit count taken begun rest
    → length left ≡ waiting → Leaves ended waiting left []
leaves_taken (None) limit count waiting taken left begun rest h e = (e, refl)
leaves_taken (Some ends.Quit) limit count waiting taken left begun rest h e = (e, refl)
leaves_taken (Some ends.Limit) limit count waiting taken left begun rest h e = (e, refl)
leaves_taken (Some ends.WriteFault) limit count waiting taken left begun rest h e = absurd h
leaves_taken (Some ends.Memory) limit count waiting taken left begun rest h e = absurd h
leaves_taken (Some ends.Ended) limit count waiting taken left begun rest h e = absurd h
leaves_taken (Some ends.ReadFault) limit count waiting taken left begun rest h e = absurd h

-- the replies of a session that went on, once more bytes were taken
pub replies_taken : (fed bytes told : List ℕ) (ended : Option End) (limit count waiting : ℕ) (rest : List ℕ) → Replies fed told 0 None
    → Halts ended limit count (lines_after (unfinished_line fed) bytes) (rest_after (unfinished_line fed) bytes) rest
    → length (lines_after (unfinished_line fed) bytes) ≡ waiting → Replies (fed ++ bytes) told waiting ended
replies_taken fed bytes told ended limit count waiting rest r h e =
    let more = lines_after (unfinished_line fed) bytes in
    let before : input_lines fed ≡ r.answered = r.these ∙ ap (λ (t : List (List ℕ)). r.answered ++ t) (none_left r.left r.leaves.0) ∙ append-nil r.answered in record {
      answered = r.answered;
      left = more;
      these = lines_after-append [] fed bytes ∙ ap (λ (t : List (List ℕ)). t ++ more) before;
      said = r.said;
      one = r.one;
      untold = [];
      text_is = r.text_is ∙ ap (λ (t : List ℕ). told ++ t) r.leaves.1;
      leaves = leaves_taken ended limit count waiting more more _ rest h e;
    }

positive : (n : ℕ) → 0 < n → n ≡ 0 → ⊥
positive n some none = omega (arith, some, none)

-- a session that waits has a line left for each answer, and no text left out
waits : (ended : Option End) (waiting : ℕ) (left : List (List ℕ)) (untold : List ℕ) → 0 < waiting → Leaves ended waiting left untold
    → (length left ≡ waiting) × (untold ≡ []) × Leaves ended 0 [] []
waits (None) waiting left untold some l = (l.0, l.1, (refl, refl))
waits (Some ends.Quit) waiting left untold some l = (l.0, l.1, (refl, refl))
waits (Some ends.Limit) waiting left untold some l = (l.0, l.1, (refl, refl))
waits (Some ends.Memory) waiting left untold some l = absurd l
waits (Some ends.WriteFault) waiting left untold some l = absurd (positive waiting some l)
waits (Some ends.Ended) waiting left untold some l = absurd l
waits (Some ends.ReadFault) waiting left untold some l = absurd l

lacking : (told : Option End) (left : List (List ℕ)) (untold : List ℕ) → LacksMemory told → Leaves told 0 left untold
lacking (Some ends.Memory) left untold l = absurd l
lacking (Some ends.WriteFault) left untold l = refl
lacking (None) left untold l = absurd l
lacking (Some ends.Quit) left untold l = absurd l
lacking (Some ends.Limit) left untold l = absurd l
lacking (Some ends.Ended) left untold l = absurd l
lacking (Some ends.ReadFault) left untold l = absurd l

-- the replies of a session that waits, with the text of the answers, but for some that is left out
replies_told : (fed told text untold : List ℕ) (part : List Answer) (waiting : ℕ) (ended ended' : Option End) → 0 < waiting → length part ≡ waiting
    → Replies fed told waiting ended → session_text part ≡ text ++ untold → StaysOrLacks ended ended' untold → Replies fed (told ++ text) 0 ended'
replies_told fed told text untold part waiting ended ended' some many r cut stays =
    let w = waits ended waiting r.left r.untold some r.leaves in
    let l = length-append r.said part in
    let m = length-append r.answered r.left in
    let o = r.one in
    let n = w.0 in
    let before : session_text r.said ≡ told = r.text_is ∙ ap (λ (t : List ℕ). told ++ t) w.1 ∙ append-nil told in record {
      answered = r.answered ++ r.left;
      left = [];
      these = r.these ∙ sym (append-nil (r.answered ++ r.left));
      said = r.said ++ part;
      one = omega (arith, l, m, o, n, many);
      untold = untold;
      text_is = flat_map-append text_of r.said part ∙ (λ i. before i ++ cut i) ∙ sym (append_assoc told text untold);
      leaves = leaves_told stays;
    }
  where
    leaves_told : StaysOrLacks ended ended' untold → Leaves ended' 0 [] untold
    leaves_told (inl s) = subst (λ (u : List ℕ). Leaves ended' 0 [] u) (sym s.1) (subst (λ (e : Option End). Leaves e 0 [] []) (sym s.0) (waits ended waiting r.left r.untold some r.leaves).2)
    leaves_told (inr s) = lacking ended' [] untold s

-- if the answers are not there, the session ends
replies_lost : (fed told : List ℕ) (waiting : ℕ) (ended : Option End) → Replies fed told waiting ended → Replies fed told 0 (Some ends.WriteFault)
replies_lost fed told waiting ended r = record { answered = r.answered; left = r.left; these = r.these; said = r.said; one = r.one; untold = r.untold; text_is = r.text_is; leaves = refl }

-- there are as many answers, whatever they show
length_last : (shown : List ℕ) (said : List Answer) → length (last_showing shown said) ≡ length said
length_last shown [] = refl
length_last shown (a ∷ []) = refl
length_last shown (a ∷ b ∷ more) = let n = length_last shown (b ∷ more) in omega arith

-- the text that a session gets for its part of the answers
abbrev pub words_of : Option Bool → List ℕ → List ℕ → List ℕ
words_of worded awaited text = text ++ cond (is_replied worded) awaited []

-- the text of the answers, the last of which shows the awaited entries if it is a reply
pub words_told : (first count : ℕ) (released : List Answer) (awaited old new : List ℕ) (worded : Option Bool) (ended : Option End) → (w : WordsPart first count released old new worded)
    → (untold : List ℕ) × (session_text (last_showing awaited w.part) ≡ words_of worded awaited w.text ++ untold) × StaysOrLacks ended (ended_by worded ended) untold
words_told first count released awaited old new worded ended w =
    let whole = session_text_last awaited w.part in
    let shown = cond (ends_with_reply w.part) awaited [] in
    elim w.all [
      | inl all ↦ (
        [],
        whole ∙ ap (λ (t : List ℕ). t ++ shown) (w.text_is ∙ ap (λ (t : List ℕ). w.text ++ t) all.1 ∙ append-nil w.text)
            ∙ ap (λ (o : Option Bool). words_of o awaited w.text) (sym all.0) ∙ sym (append-nil (words_of worded awaited w.text)),
        inl (ap (λ (o : Option Bool). ended_by o ended) all.0, refl),
      )
      | inr lost ↦ (
        w.untold ++ shown,
        whole ∙ ap (λ (t : List ℕ). t ++ shown) w.text_is ∙ append_assoc w.text w.untold shown
            ∙ ap (λ (t : List ℕ). t ++ (w.untold ++ shown)) (sym (append-nil w.text) ∙ ap (λ (o : Option Bool). words_of o awaited w.text) (sym lost)),
        inr (subst (λ (o : Option Bool). LacksMemory (ended_by o ended)) (sym lost) tt),
      )
    ]

-- the replies of a session that waits, with the text of its part of the released answers
pub replies_worded : (fed text awaited : List ℕ) (first count : ℕ) (released : List Answer) (old new : List ℕ) (worded : Option Bool) (ended : Option End) → 0 < count → Replies fed text count ended
    → (w : WordsPart first count released old new worded) → Replies fed (text ++ words_of worded awaited w.text) 0 (ended_by worded ended)
replies_worded fed text awaited first count released old new worded ended some r w =
    let t = words_told first count released awaited old new worded ended w in
    elim w.there [
      | inl all ↦ replies_told fed text (words_of worded awaited w.text) t.0 (last_showing awaited w.part) count ended (ended_by worded ended) some (length_last awaited w.part ∙ all) r t.1 t.2
      | inr lost ↦
          let none : words_of worded awaited w.text ≡ [] = (λ i. words_of (lost.0 i) awaited (lost.1 i)) in
          let same : text ≡ text ++ words_of worded awaited w.text = sym (ap (λ (t : List ℕ). text ++ t) none ∙ append-nil text) in
          let lacks : Some ends.WriteFault ≡ ended_by worded ended = sym (ap (λ (o : Option Bool). ended_by o ended) lost.0) in
          subst (λ (t : List ℕ). Replies fed t 0 (ended_by worded ended)) same (subst (λ (e : Option End). Replies fed text 0 e) lacks (replies_lost fed text count ended r))
    ]

-- the answers were worded, or memory ran out
abbrev pub WordsAll : List ℕ → List ℕ → List Answer → Option Bool → Type 0
WordsAll old new part worded =
    (text : List ℕ) × (untold : List ℕ) × (new ≡ old ++ text) × (session_text (map bare part) ≡ text ++ untold) × ((worded ≡ Some (ends_with_reply part)) × (untold ≡ []) ⊎ (worded ≡ None))

pub worded_of : (sink sink' : Taken) (part : List Answer) (r : Result Bool Failed) → OnOk r (Writes sink sink' (session_text (map bare part))) → IfOk r (λ replied. replied ≡ ends_with_reply part)
    → OnErr r (DeliversPart sink sink' (session_text (map bare part))) → WordsAll sink.bytes sink'.bytes part (result_ok r)
worded_of sink sink' part (Ok replied) ok is err = (session_text (map bare part), [], ok.bytes, sym (append-nil _), inl (ap Some is, refl))
worded_of sink sink' part (Err e) ok is err = (err.written, err.unwritten, err.bytes, err.cut, inr refl)

-- the unsent bytes stay before the new text
pub unsent_more : (gone : ℕ) (old new text : List ℕ) → gone ≤ length old → new ≡ old ++ text → drop gone new ≡ drop gone old ++ text
unsent_more gone old new text within is = ap (λ (t : List ℕ). drop gone t) is ∙ drop-append-le gone old text within

-- a taking does not end a session for want of memory
pub halts_sound : (ended : Option End) (limit count : ℕ) (taken : List (List ℕ)) (begun rest : List ℕ) → Halts ended limit count taken begun rest → LacksMemory ended → ⊥
halts_sound (None) limit count taken begun rest h l = l
halts_sound (Some ends.Quit) limit count taken begun rest h l = l
halts_sound (Some ends.Limit) limit count taken begun rest h l = l
halts_sound (Some ends.WriteFault) limit count taken begun rest h l = h
halts_sound (Some ends.Memory) limit count taken begun rest h l = l
halts_sound (Some ends.Ended) limit count taken begun rest h l = h
halts_sound (Some ends.ReadFault) limit count taken begun rest h l = h

-- a session that was fed nothing
pub nothing_fed : (session : Session) → session.line ≡ [] → session.answered ≤ session.limit → (x y z : List ℕ) → x ≡ [] → y ≡ [] → z ≡ []
    → GoesOn None session x × Replies x ((y ++ z) ++ []) 0 None
unfolding lines_after rest_after
nothing_fed session line within x y z nx ny nz =
    let P : List ℕ → List ℕ → Type 0 = λ fed text. GoesOn None session fed × Replies fed text 0 None in
    let base : P [] [] = ((line, within), record { answered = []; left = []; these = refl; said = []; one = refl; untold = []; text_is = refl; leaves = (refl, refl) }) in
    let fed : P x [] = subst (λ (t : List ℕ). P t []) (sym nx) base in
    let none : [] ≡ (y ++ z) ++ [] = sym ((λ i. (ny i ++ nz i) ++ [])) in
    subst (λ (t : List ℕ). P x t) none fed

-- a session goes on that has not ended
pub goes_on : (ended : Option End) (session : Session) (fed : List ℕ) (limit : ℕ) → session.line ≡ kept_part (unfinished_line fed)
    → session.limit ≡ limit → session.answered ≤ limit → GoesOn ended session fed
goes_on (None) session fed limit line same within = (line, omega (arith, same, within))
goes_on (Some end) session fed limit line same within = tt

pub goes_on_told : (ended : Option End) (worded : Option Bool) (session : Session) (fed : List ℕ) → GoesOn ended session fed → GoesOn (ended_by worded ended) session fed
goes_on_told ended None session fed g = tt
goes_on_told ended (Some replied) session fed g = g

-- the text of a list counts as a reply once no answer is waited for
pub told_first : (waiting : ℕ) (text : List ℕ) → 0 < waiting → once_told waiting text ≡ []
told_first waiting text some = cond-false (waiting == 0) text [] (ne_eqb waiting 0 (positive waiting some))

pub waits_first : (waiting : ℕ) (text : List ℕ) → 0 < waiting → while_waiting waiting text ≡ text
waits_first waiting text some = cond-false (waiting == 0) [] text (ne_eqb waiting 0 (positive waiting some))

-- one piece more of the listed entries is worded
pub piece_more : (sent replies new piece left left' : List ℕ) (gone waiting : ℕ) → gone ≤ length replies → waiting ≡ 0 → new ≡ replies ++ piece → piece ++ left' ≡ left
    → (sent ++ drop gone new) ++ once_told waiting left' ≡ (sent ++ drop gone replies) ++ once_told waiting left
piece_more sent replies new piece left left' gone waiting within told is cut =
    let front = sent ++ drop gone replies in
    subst (λ (n : ℕ). (sent ++ drop gone new) ++ once_told n left' ≡ front ++ once_told n left) (sym told)
    (ap (λ (t : List ℕ). (sent ++ t) ++ left') (unsent_more gone replies new piece within is)
    ∙ ap (λ (t : List ℕ). t ++ left') (sym (append_assoc sent (drop gone replies) piece)) ∙ append_assoc front piece left' ∙ ap (λ (t : List ℕ). front ++ t) cut)

-- once no answer is waited for, no entries are awaited
pub none_while : (waiting : ℕ) (a b : List ℕ) → waiting ≡ 0 → while_waiting waiting a ≡ while_waiting waiting b
none_while waiting a b told = subst (λ (n : ℕ). while_waiting n a ≡ while_waiting n b) (sym told) refl

-- no text is listed if there are no answers that show it
pub none_listed : (held : List Withheld) (waiting : ℕ) (text : List ℕ) → length held ≡ waiting → (held ≡ [] → text ≡ []) → once_told waiting text ≡ []
none_listed [] waiting text one none = subst (λ (n : ℕ). once_told n text ≡ []) one (none refl)
none_listed (w ∷ held) waiting text one none = told_first waiting text (omega (arith, one))

-- the awaited text is that of the list
pub awaited_shows : (held : List Withheld) (waiting : ℕ) (text : List ℕ) → length held ≡ waiting → LastShows text (map answer_of held) → LastShows (while_waiting waiting text) (map answer_of held)
awaited_shows [] waiting text one shows = refl
awaited_shows (w ∷ held) waiting text one shows = subst (λ (t : List ℕ). LastShows t (map answer_of (w ∷ held))) (sym (waits_first waiting text (omega (arith, one)))) shows

-- the sent and the unsent bytes together are the same, however many were sent
pub sent_more : (sent replies : List ℕ) (gone count : ℕ) → (sent ++ take count (drop gone replies)) ++ drop (gone + count) replies ≡ sent ++ drop gone replies
sent_more sent replies gone count =
    append_assoc sent (take count (drop gone replies)) (drop (gone + count) replies)
    ∙ ap (λ (t : List ℕ). sent ++ (take count (drop gone replies) ++ t)) (sym (drop-drop count gone replies))
    ∙ ap (λ (t : List ℕ). sent ++ t) (take-append-drop count (drop gone replies))
