-- The steps of a session, by one line and by one read.
use Rattle.std.proofs.Common.{◌≡◌, ◌≢◌, ◌==◌, ◌+◌, ◌-◌, take, drop, ◌<◌, ◌≤◌, ℕ, true, false, List, [], ◌∷◌, ◌++◌, All, IfNone, Option, Some, None, length, map, refl, sym, ap, ◌∙◌, subst, inl, inr, arith}
use Rattle.std.proofs.lemmas.List.{append-nil, length-append, length_push, append_assoc, take_at, drop_at, take_all, take-append-drop, length-drop}
use Rattle.std.proofs.lemmas.Bool.{ne_eqb}
use Rattle.std.proofs.Math.Seq.{drop-length}
use Rattle.std.proofs.lemmas.List.Elements.{All-append, All-cons, All-nil}
use Rattle.std.proofs.lemmas.Grind.{flat_map-append}
use Rattle.nmvs_stream.specs.Source.{Told}
use Rattle.nmvs_stream.specs.Sink.{Taken, Flushes, FailsToTake}
use Rattle.nmvs_stream.specs.Delivery.{DeliversPart}
use Rattle.nmvs_messages.specs.declared.ask.Ask.{Ask}
use Rattle.nmvs_messages.specs.declared.ask.Line.TheVariants as lines
use Rattle.nmvs_messages.specs.declared.answer.Answer.{Answer}
use Rattle.nmvs_messages.specs.declared.withheld.Withheld.{Withheld}
use Rattle.nmvs_messages.specs.declared.limits.Limits.{Limits}
use Rattle.nmvs_protocol.specs.declared.session.Session.{Session as TheSession}
use Rattle.nmvs_messages.specs.declared.end.End.{End}
use Rattle.nmvs_messages.specs.declared.end.End.TheVariants as ends
use Rattle.nmvs_protocol.specs.Lines.{line_text}
use Rattle.nmvs_protocol.specs.Texts.{text}
use Rattle.nmvs_stream.specs.InputLines.{HasNoLf, input_lines, unfinished_line, lines_after, rest_after}
use Rattle.nmvs_stream.proofs.LinesOfPieces.{lines_after-append, rest_after-append, no_line, line_cut, left_cut}
use Rattle.nmvs_messages.proofs.KeptLines.{kept_more}
use Rattle.nmvs_messages.specs.Withheld.{answer_of, shown_text}
use Rattle.nmvs_protocol.specs.Session.{TakesLine, TakesLines, ReleasesAll, Round, GoesRounds, lines_of, answers_of, AnswersLines, NoQuit, NoQuitBeforeLast, EndsWithQuit, DeliversAll, BreaksOff, Closes, Session, session_text, is_input_end, is_read_fault}
use Rattle.nmvs_messages.specs.PendingLines.{kept_part}
use Rattle.nmvs_protocol.specs.Progress.{LastShows, TellsWithheld, Halts, Took, Gathers, Delivered, Tells, Stands, Fed, Served, has_write_fault}
use Rattle.nmvs_protocol.proofs.SessionTelling.{no_quit_more, ShowsNone, last_shows, none_shows, told_of, all_length, tells_more, tells_sound, broken, flushes, unflushed, flush_fails}

-- bytes that are cut once more
pub whole_cut : (n : ℕ) (bytes rest : List ℕ) {all : List ℕ} → bytes ++ rest ≡ all → (bytes ++ take n rest) ++ drop n rest ≡ all
whole_cut n bytes rest whole = append_assoc bytes (take n rest) (drop n rest) ∙ ap (λ (t : List ℕ). bytes ++ t) (take-append-drop n rest) ∙ whole

pub whole_left : (n : ℕ) (bytes rest : List ℕ) {all : List ℕ} → bytes ++ rest ≡ all → (bytes ++ take n rest) ++ take (length rest - n) (drop n rest) ≡ all
whole_left n bytes rest whole =
    let left = length-drop n rest in
    ap (λ (t : List ℕ). (bytes ++ take n rest) ++ t) (take_all (length rest - n) (drop n rest) (omega (arith, left))) ∙ whole_cut n bytes rest whole

-- the bytes after a line
pub behind_line : (bytes tail behind : List ℕ) {rest all : List ℕ} → bytes ++ rest ≡ all → rest ≡ tail ++ 10 ∷ behind → (bytes ++ (tail ++ 10 ∷ [])) ++ behind ≡ all
behind_line bytes tail behind whole cut =
    append_assoc bytes (tail ++ 10 ∷ []) behind ∙ ap (λ (t : List ℕ). bytes ++ t) (append_assoc tail (10 ∷ []) behind ∙ sym cut) ∙ whole

pub some_bytes : (bytes tail : List ℕ) → bytes ++ (tail ++ 10 ∷ []) ≡ [] → ⊥
some_bytes bytes tail none =
    let n = ap (λ (l : List ℕ). length l) none in
    let m = length-append bytes (tail ++ 10 ∷ []) in
    let k = length-append tail (10 ∷ []) in
    omega (arith, n, m, k)

-- the bytes that are left give the number of bytes that were taken
pub taken_part : {bytes left all : List ℕ} → bytes ++ left ≡ all → (take (length all - length left) all ≡ bytes) × (drop (length all - length left) all ≡ left)
taken_part {bytes} {left} {all} whole =
    let n = length-append bytes left in
    let m = ap (λ (l : List ℕ). length l) whole in
    let is : length all - length left ≡ length bytes = omega arith in (
      (λ i. take (is i) (sym whole i)) ∙ take_at bytes left (length bytes) refl,
      (λ i. drop (is i) (sym whole i)) ∙ drop_at bytes left (length bytes) refl,
    )

module _ {D : Type 0} (takes : D → Ask → Withheld → D → Type 0) where
  taken_more : (old : D) (xs : List (List ℕ)) (withheld : List Withheld) (now new : D) (x : List ℕ) (w : Withheld)
      → TakesLines takes old xs withheld now → TakesLine takes now x w new → TakesLines takes old (xs ++ x ∷ []) (withheld ++ w ∷ []) new
  taken_more old [] [] now new x w t one = (new, subst (λ (d : D). TakesLine takes d x w new) t one, refl)
  taken_more old (y ∷ ys) (v ∷ withheld) now new x w t one = (t.0, t.1, taken_more t.0 ys withheld now new x w t.2 one)
  taken_more old [] (v ∷ withheld) now new x w t one = absurd t
  taken_more old (y ∷ ys) [] now new x w t one = absurd t

  -- the progress of a session: the answers to the lines of the first bytes are withheld
  pub record TakesOn (session : TheSession) (first : D) (withheld : List Withheld) (begun bytes : List ℕ) (session' : TheSession) (now : D) (withheld' : List Withheld) : Type 0 where
    pub held : List Withheld
    pub behind : withheld' ≡ withheld ++ held
    pub answers : TakesLines takes first (lines_after begun bytes) held now
    pub line : session'.line ≡ kept_part (rest_after begun bytes)
    pub counted : session'.answered ≡ session.answered + length held
    pub limit : session'.limit ≡ session.limit
    pub within : session'.answered ≤ session.limit
    pub no_quit : NoQuit (lines_after begun bytes)
    pub none : All ShowsNone held

  pub takes_none : (session : TheSession) (first : D) (withheld : List Withheld) (begun : List ℕ) → session.line ≡ kept_part begun → session.answered ≤ session.limit
      → TakesOn session first withheld begun [] session first withheld
  unfolding lines_after rest_after
  takes_none session first withheld begun line within = record {
    held = [];
    behind = sym (append-nil withheld);
    answers = refl;
    line = line;
    counted = omega arith;
    limit = refl;
    within = within;
    no_quit = All-nil _;
    none = All-nil _;
  }

  -- the bytes up to an LF end one line
  pub one_line : (begun bytes tail : List ℕ) → HasNoLf tail
      → (lines_after begun (bytes ++ (tail ++ 10 ∷ [])) ≡ lines_after begun bytes ++ (rest_after begun bytes ++ tail) ∷ []) × (rest_after begun (bytes ++ (tail ++ 10 ∷ [])) ≡ [])
  unfolding lines_after rest_after
  one_line begun bytes tail none = (
    lines_after-append begun bytes (tail ++ 10 ∷ []) ∙ ap (λ (t : List (List ℕ)). lines_after begun bytes ++ t) (line_cut (rest_after begun bytes) tail [] refl none),
    rest_after-append begun bytes (tail ++ 10 ∷ []) ∙ left_cut (rest_after begun bytes) tail [] refl none,
  )

  -- an answer is held
  none_held : (held : List Withheld) (w : Withheld) {P : Type 0} → held ++ w ∷ [] ≡ [] → P
  none_held held w none = absurd (let n = ap (λ (l : List Withheld). length l) none in let m = length_push held w in omega (arith, n, m))

  -- one more line is taken
  pub took_line : {session session' session'' : TheSession} {first now new : D} {withheld withheld' withheld'' : List Withheld} {begun bytes : List ℕ} {end : Option End} {shown : List ℕ} (tail left : List ℕ) (w : Withheld)
      → (k : TakesOn session first withheld begun bytes session' now withheld') → session'.answered < session'.limit → HasNoLf tail → TakesLine takes now (rest_after begun bytes ++ tail) w new
      → session''.answered ≡ session'.answered + 1 → session''.limit ≡ session'.limit → session''.line ≡ [] → withheld'' ≡ withheld' ++ w ∷ []
      → Halts end session.limit session''.answered (lines_after begun bytes ++ (rest_after begun bytes ++ tail) ∷ []) [] left → shown_text w ≡ shown
      → Took takes session first withheld begun (bytes ++ (tail ++ 10 ∷ [])) left session'' new withheld'' end shown
  took_line {session} {session'} {session''} {first} {now} {new} {withheld} {withheld'} {withheld''} {begun} {bytes} {end} {shown} tail left w k lt none one next same line more halts shows =
      let n = length_push k.held w in
      let cut = one_line begun bytes tail none in
      let counted = k.counted in
      let limit = k.limit in record {
        held = k.held ++ w ∷ [];
        behind = more ∙ ap (λ (ws : List Withheld). ws ++ w ∷ []) k.behind ∙ append_assoc withheld k.held (w ∷ []);
        answers = subst (λ (xs : List (List ℕ)). TakesLines takes first xs (k.held ++ w ∷ []) new) (sym cut.0) (taken_more first (lines_after begun bytes) k.held now new (rest_after begun bytes ++ tail) w k.answers one);
        line = line ∙ ap kept_part (sym cut.1);
        counted = omega arith;
        limit = same ∙ k.limit;
        within = omega arith;
        shows = last_shows k.held w shown k.none shows;
        none = none_held k.held w;
        halts = subst (λ (r : List ℕ). Halts end session.limit session''.answered (lines_after begun (bytes ++ (tail ++ 10 ∷ []))) r left) (sym cut.1)
            (subst (λ (xs : List (List ℕ)). Halts end session.limit session''.answered xs [] left) (sym cut.0) halts);
      }

  -- its answer shows no entry
  pub takes_line : {session session' session'' : TheSession} {first now new : D} {withheld withheld' withheld'' : List Withheld} {begun bytes : List ℕ} (tail : List ℕ) (w : Withheld)
      → (k : TakesOn session first withheld begun bytes session' now withheld') → session'.answered < session'.limit → HasNoLf tail → TakesLine takes now (rest_after begun bytes ++ tail) w new
      → session''.answered ≡ session'.answered + 1 → session''.limit ≡ session'.limit → session''.line ≡ [] → withheld'' ≡ withheld' ++ w ∷ []
      → rest_after begun bytes ++ tail ≢ line_text lines.Quit → ShowsNone w
      → TakesOn session first withheld begun (bytes ++ (tail ++ 10 ∷ [])) session'' new withheld''
  unfolding took_line
  takes_line {begun = begun} {bytes = bytes} tail w k lt none one next same line more other shows =
      let t = took_line {end = None} tail [] w k lt none one next same line more (no_quit_more (lines_after begun bytes) (rest_after begun bytes ++ tail) k.no_quit other) shows in record {
        held = t.held;
        behind = t.behind;
        answers = t.answers;
        line = t.line;
        counted = t.counted;
        limit = t.limit;
        within = t.within;
        no_quit = t.halts;
        none = All-append ShowsNone k.held (w ∷ []) k.none (All-cons ShowsNone w [] shows (All-nil ShowsNone));
      }

  -- no line more is taken
  pub took_all : {session session' : TheSession} {first now : D} {withheld withheld' : List Withheld} {begun bytes : List ℕ} (left : List ℕ) (end : Option End)
      → (k : TakesOn session first withheld begun bytes session' now withheld') → Halts end session.limit session'.answered (lines_after begun bytes) (rest_after begun bytes) left
      → Took takes session first withheld begun bytes left session' now withheld' end []
  took_all left end k halts = record {
    held = k.held;
    behind = k.behind;
    answers = k.answers;
    line = k.line;
    counted = k.counted;
    limit = k.limit;
    within = k.within;
    shows = none_shows k.held k.none;
    none = λ held. refl;
    halts = halts;
  }

  -- the progress as the number of bytes that were taken
  pub took_until : {session session' : TheSession} {first now : D} {withheld withheld' : List Withheld} {begun bytes left all shown : List ℕ} {end : Option End} (count : ℕ) (ended : Option End)
      → bytes ++ left ≡ all → count ≡ length all - length left → ended ≡ end → Took takes session first withheld begun bytes left session' now withheld' end shown
      → Took takes session first withheld begun (take count all) (drop count all) session' now withheld' ended shown
  took_until {session} {session'} {first} {now} {withheld} {withheld'} {begun} {bytes} {left} {all} {shown} {end} count ended whole counts ends t =
      let part = taken_part {bytes = bytes} {left = left} whole in
      subst (λ (n : ℕ). Took takes session first withheld begun (take n all) (drop n all) session' now withheld' ended shown) (sym counts)
      (subst (λ (e : Option End). Took takes session first withheld begun (take (length all - length left) all) (drop (length all - length left) all) session' now withheld' e shown) (sym ends)
      (subst (λ (l : List ℕ). Took takes session first withheld begun (take (length all - length left) all) l session' now withheld' end shown) (sym part.1)
      (subst (λ (b : List ℕ). Took takes session first withheld begun b left session' now withheld' end shown) (sym part.0) t)))

  -- no answer was withheld before
  pub took_first : {session session' : TheSession} {first now : D} {withheld withheld' : List Withheld} {begun bytes left shown : List ℕ} {end : Option End}
      → withheld ≡ [] → Took takes session first withheld begun bytes left session' now withheld' end shown → Took takes session first [] begun bytes left session' now withheld' end shown
  took_first {session} {session'} {first} {now} {withheld} {withheld'} {begun} {bytes} {left} {shown} {end} none t =
      subst (λ (ws : List Withheld). Took takes session first ws begun bytes left session' now withheld' end shown) none t

  -- all bytes are taken
  pub took_whole : {session session' : TheSession} {first now : D} {withheld withheld' : List Withheld} {begun bytes shown : List ℕ} {end : Option End} (all : List ℕ)
      → bytes ≡ all → Took takes session first withheld begun bytes [] session' now withheld' end shown
      → Took takes session first withheld begun (take (length all) all) (drop (length all) all) session' now withheld' end shown
  took_whole {session} {session'} {first} {now} {withheld} {withheld'} {begun} {bytes} {shown} {end} all whole t =
      subst (λ (l : List ℕ). Took takes session first withheld begun (take (length all) all) l session' now withheld' end shown) (sym (drop-length all))
      (subst (λ (b : List ℕ). Took takes session first withheld begun b [] session' now withheld' end shown) (whole ∙ sym (take_all (length all) all (omega arith))) t)

  -- the bytes that are left end no line
  pub took_rest : {session session' session'' : TheSession} {first now : D} {withheld withheld' : List Withheld} {begun bytes : List ℕ} (rest : List ℕ)
      → (k : TakesOn session first withheld begun bytes session' now withheld') → HasNoLf rest → session''.line ≡ kept_part (session'.line ++ rest)
      → session''.answered ≡ session'.answered → session''.limit ≡ session'.limit → Took takes session first withheld begun (bytes ++ rest) [] session'' now withheld' None []
  took_rest {session} {session'} {session''} {first} {now} {withheld} {withheld'} {begun} {bytes} rest k none line same limit =
      let ends = no_line (rest_after begun bytes) rest none in
      let these : lines_after begun (bytes ++ rest) ≡ lines_after begun bytes = lines_after-append begun bytes rest ∙ ap (λ (t : List (List ℕ)). lines_after begun bytes ++ t) ends.0 ∙ append-nil (lines_after begun bytes) in
      let counted = k.counted in record {
        held = k.held;
        behind = k.behind;
        answers = subst (λ (xs : List (List ℕ)). TakesLines takes first xs k.held now) (sym these) k.answers;
        line = line ∙ ap (λ (t : List ℕ). kept_part (t ++ rest)) k.line ∙ kept_more (rest_after begun bytes) rest ∙ ap kept_part (sym (rest_after-append begun bytes rest ∙ ends.1));
        counted = same ∙ k.counted;
        limit = limit ∙ k.limit;
        within = omega (arith, k.within, same);
        shows = none_shows k.held k.none;
        none = λ held. refl;
        halts = subst NoQuit (sym these) k.no_quit;
      }

  module _ (releases : D → D → Withheld → Answer → Type 0) (moves : D → D → Type 0) where
    -- as many answers are withheld as there are lines, and as many are released as are withheld
    taken_length : (old : D) (xs : List (List ℕ)) (held : List Withheld) (new : D) → TakesLines takes old xs held new → length held ≡ length xs
    taken_length old [] [] new t = refl
    taken_length old (x ∷ xs) (w ∷ held) new t = let n = taken_length t.0 xs held new t.2 in omega arith
    taken_length old [] (w ∷ held) new t = absurd t
    taken_length old (x ∷ xs) [] new t = absurd t

    rounds_length : (old : D) (rounds : List Round) (new : D) → GoesRounds takes releases moves old rounds new → length (answers_of rounds) ≡ length (lines_of rounds)
    rounds_length old [] new g = refl
    rounds_length old (r ∷ rounds) new g =
        let one = g.1 in
        let taken = taken_length old r.lines one.held one.asked one.taken in
        let released = all_length releases moves one.asked g.0 one.held r.said one.released in
        let rest = rounds_length g.0 rounds new g.2 in
        let n = length-append r.said (answers_of rounds) in
        let m = length-append r.lines (lines_of rounds) in
        omega arith

    answered_length : (old : D) (xs : List (List ℕ)) (said : List Answer) (new : D) → AnswersLines takes releases moves old xs said new → length said ≡ length xs
    answered_length old xs said new a =
        ap (λ (l : List Answer). length l) a.answers_are ∙ rounds_length old a.rounds new a.desk ∙ ap (λ (l : List (List ℕ)). length l) (sym a.lines_are)

    no_lines_answered : (old : D) → AnswersLines takes releases moves old [] [] old
    no_lines_answered old = record { rounds = []; desk = refl; lines_are = refl; answers_are = refl }

    -- lines that were taken, whose answers are released together
    one_round : (old : D) (xs : List (List ℕ)) (held : List Withheld) (asked : D) (said : List Answer) (new : D) → TakesLines takes old xs held asked
        → ReleasesAll releases moves asked held said new → AnswersLines takes releases moves old xs said new
    one_round old xs held asked said new taken released = record {
      rounds = record { lines = xs; said = said } ∷ [];
      desk = (new, record { held = held; asked = asked; taken = taken; released = released }, refl);
      lines_are = sym (append-nil xs);
      answers_are = sym (append-nil said);
    }

    rounds_both : (old : D) (rounds more : List Round) (mid new : D) → GoesRounds takes releases moves old rounds mid → GoesRounds takes releases moves mid more new
        → GoesRounds takes releases moves old (rounds ++ more) new
    rounds_both old [] more mid new a b = subst (λ (d : D). GoesRounds takes releases moves d more new) a b
    rounds_both old (r ∷ rounds) more mid new a b = (a.0, a.1, rounds_both a.0 rounds more mid new a.2 b)

    -- lines after others
    pub answers_both : (old : D) (xs ys : List (List ℕ)) (said more : List Answer) (mid new : D) → AnswersLines takes releases moves old xs said mid
        → AnswersLines takes releases moves mid ys more new → AnswersLines takes releases moves old (xs ++ ys) (said ++ more) new
    answers_both old xs ys said more mid new a b = record {
      rounds = a.rounds ++ b.rounds;
      desk = rounds_both old a.rounds b.rounds mid new a.desk b.desk;
      lines_are = (λ i. a.lines_are i ++ b.lines_are i) ∙ sym (flat_map-append (λ (r : Round). r.lines) a.rounds b.rounds);
      answers_are = (λ i. a.answers_are i ++ b.answers_are i) ∙ sym (flat_map-append (λ (r : Round). r.said) a.rounds b.rounds);
    }

    -- lines whose answers were all released and written in this way
    pub record AllTold (session : TheSession) (first : D) (start : Taken) (now : D) (sink : Taken) (count : ℕ) (lines : List (List ℕ)) (end : Option End) : Type 0 where
      pub said : List Answer
      pub answers : AnswersLines takes releases moves first lines said now
      pub counted : count ≡ session.answered + length said
      pub within : count ≤ session.limit
      pub told : Tells end start sink said

    -- no line was fed
    pub all_told_none : (session : TheSession) (first : D) (start : Taken) → session.answered ≤ session.limit → AllTold session first start first start session.answered [] None
    all_told_none session first start within = record {
      said = [];
      answers = no_lines_answered first;
      counted = omega arith;
      within = within;
      told = record { bytes = sym (append-nil start.bytes); flushed = λ none. refl; failed = refl };
    }

    -- more lines, whose answers were withheld, and are written in this way
    tells : {session : TheSession} {first : D} {start : Taken} {now new : D} {sink sink' : Taken} {count count' : ℕ} {lines : List (List ℕ)} (at : D) (xs : List (List ℕ)) (withheld : List Withheld) (shown : List ℕ) (end : Option End)
        → AllTold session first start now sink count lines None → TakesLines takes now xs withheld at → count' ≡ count + length withheld → count' ≤ session.limit
        → LastShows shown (map answer_of withheld) → TellsWithheld releases moves shown withheld at new end sink sink' → AllTold session first start new sink' count' (lines ++ xs) end
    tells {session} {first} {start} {now} {new} {sink} {sink'} {lines = lines} at xs withheld shown end k taken more within shows told =
        let t = told_of releases moves shown withheld at new end sink sink' told in
        let n = all_length releases moves at new withheld t.0 t.1 in
        let m = length-append k.said t.0 in
        let counted = k.counted in record {
          said = k.said ++ t.0;
          answers = answers_both first lines xs k.said t.0 now new k.answers (one_round now xs withheld at t.0 new taken t.1);
          counted = omega arith;
          within = within;
          told = tells_more end start sink sink' k.said t.0 k.told (t.2 shows);
        }

    -- the answers to all lines are written in this way, and the lines after them are left
    answered_so : (session session' : TheSession) (first : D) (start : Taken) (now : D) (sink : Taken) (lines left all : List (List ℕ)) (said : List Answer) (end : Option End)
        → AnswersLines takes releases moves first lines said now → lines ++ left ≡ all → session'.answered ≡ session.answered + length said → session'.limit ≡ session.limit → session'.answered ≤ session.limit
        → Stands end (Gathers start sink) session.limit session'.answered lines left said start sink → (start.failed ≡ false → sink.failed ≡ has_write_fault end)
        → Fed takes releases moves session first start all session' now sink end
    answered_so session session' first start now sink lines left all said end a these counted limit within stands sound = record {
      answered = lines;
      left = left;
      these = sym these;
      said = said;
      answers = a;
      counted = counted;
      limit = limit;
      within = within;
      stands = stands;
      sound = sound;
    }

    -- the session ends since writing broke off
    pub fed_broken : {session session' : TheSession} {first : D} {start : Taken} {now : D} {sink : Taken} {lines : List (List ℕ)} (left all : List (List ℕ)) (end : End)
        → AllTold session first start now sink session'.answered lines (Some end) → lines ++ left ≡ all → session'.limit ≡ session.limit → NoQuitBeforeLast lines
        → Fed takes releases moves session first start all session' now sink (Some end)
    fed_broken {session} {session'} {first} {start} {now} {sink} {lines} left all end a these limit quit =
        answered_so session session' first start now sink lines left all a.said (Some end) a.answers these a.counted limit a.within
        (broken end session.limit session'.answered lines left a.said start sink quit a.told) (tells_sound (Some end) start sink a.said a.told)

    -- the session goes on, or ends, after all answers are written
    pub fed_all : {session session' : TheSession} {first : D} {start : Taken} {now : D} {sink : Taken} {lines : List (List ℕ)} (left all : List (List ℕ)) (end : Option End)
        → (a : AllTold session first start now sink session'.answered lines (None)) → lines ++ left ≡ all → session'.limit ≡ session.limit → has_write_fault end ≡ false
        → Stands end (Gathers start sink) session.limit session'.answered lines left a.said start sink
        → Fed takes releases moves session first start all session' now sink end
    fed_all {session} {session'} {first} {start} {now} {sink} {lines} left all end a these limit none stands =
        answered_so session session' first start now sink lines left all a.said end a.answers these a.counted limit a.within stands (λ sound. tells_sound (None) start sink a.said a.told sound ∙ sym none)

    -- the answers to all lines that the bytes complete are written
    pub fed_whole : {session session' : TheSession} {first : D} {start : Taken} {now : D} {sink : Taken} {lines : List (List ℕ)} (all : List (List ℕ)) (end : Option End)
        → AllTold session first start now sink session'.answered lines end → lines ≡ all → session'.limit ≡ session.limit → NoQuit lines → Fed takes releases moves session first start all session' now sink end
    fed_whole {lines = lines} all None a these limit quit = fed_all [] all None a (append-nil lines ∙ these) limit refl (record { all = refl; no_quit = quit }, a.told)
    fed_whole {lines = lines} all (Some end) a these limit quit = fed_broken [] all end a (append-nil lines ∙ these) limit (inl quit)

    no_quit_both : (xs ys : List (List ℕ)) → NoQuit xs → NoQuit ys → NoQuit (xs ++ ys)
    no_quit_both xs ys a b = All-append (λ (y : List ℕ). y ≢ line_text lines.Quit) xs ys a b

    ends_both : (xs ys : List (List ℕ)) → NoQuit xs → EndsWithQuit ys → EndsWithQuit (xs ++ ys)
    ends_both xs ys a b = record {
      before = xs ++ b.before;
      these = ap (λ (t : List (List ℕ)). xs ++ t) b.these ∙ sym (append_assoc xs b.before (line_text lines.Quit ∷ []));
      no_quit = no_quit_both xs b.before a b.no_quit;
    }

    -- the answers to the lines of the first bytes are written in this way, and the session stands after these bytes
    pub record Ahead (session : TheSession) (first : D) (start : Taken) (now : D) (sink : Taken) (session' : TheSession) (begun bytes : List ℕ) : Type 0 where
      pub told : AllTold session first start now sink session'.answered (lines_after begun bytes) None
      pub no_quit : NoQuit (lines_after begun bytes)
      pub line : session'.line ≡ kept_part (rest_after begun bytes)
      pub limit : session'.limit ≡ session.limit

    pub ahead_none : (session : TheSession) (first : D) (start : Taken) (begun : List ℕ) → session.answered ≤ session.limit → session.line ≡ kept_part begun → Ahead session first start first start session begun []
    unfolding lines_after rest_after
    ahead_none session first start begun within line = record { told = all_told_none session first start within; no_quit = All-nil _; line = line; limit = refl }

    -- the lines that the next bytes complete are taken, and their answers written in this way
    pub told_on : {session session' session'' : TheSession} {first : D} {start : Taken} {now at new : D} {sink sink' : Taken} {begun bytes : List ℕ} {withheld : List Withheld} {halt : Option End} {shown : List ℕ} (more left : List ℕ) (end : Option End)
        → (a : Ahead session first start now sink session' begun bytes) → Took takes session' now [] (rest_after begun bytes) more left session'' at withheld halt shown
        → TellsWithheld releases moves shown withheld at new end sink sink' → AllTold session first start new sink' session''.answered (lines_after begun (bytes ++ more)) end
    told_on {session} {session'} {session''} {first} {start} {now} {at} {new} {sink} {sink'} {begun} {bytes} {shown = shown} more left end a t told =
        subst (λ (ys : List (List ℕ)). AllTold session first start new sink' session''.answered ys end) (sym (lines_after-append begun bytes more))
        (tells at (lines_after (rest_after begun bytes) more) t.held shown end a.told t.answers t.counted (omega (arith, t.within, a.limit)) t.shows
        (subst (λ (ws : List Withheld). TellsWithheld releases moves shown ws at new end sink sink') t.behind told))

    no_quit_on : (begun bytes more : List ℕ) → NoQuit (lines_after begun bytes) → NoQuit (lines_after (rest_after begun bytes) more) → NoQuit (lines_after begun (bytes ++ more))
    no_quit_on begun bytes more a b = subst NoQuit (sym (lines_after-append begun bytes more)) (no_quit_both (lines_after begun bytes) (lines_after (rest_after begun bytes) more) a b)

    ends_on : (begun bytes more : List ℕ) → NoQuit (lines_after begun bytes) → EndsWithQuit (lines_after (rest_after begun bytes) more) → EndsWithQuit (lines_after begun (bytes ++ more))
    ends_on begun bytes more a b = subst EndsWithQuit (sym (lines_after-append begun bytes more)) (ends_both (lines_after begun bytes) (lines_after (rest_after begun bytes) more) a b)

    last_on : (halt : Option End) (limit count : ℕ) (begun bytes more left : List ℕ) → NoQuit (lines_after begun bytes)
        → Halts halt limit count (lines_after (rest_after begun bytes) more) (rest_after (rest_after begun bytes) more) left → NoQuitBeforeLast (lines_after begun (bytes ++ more))
    last_on (None) limit count begun bytes more left a h = inl (no_quit_on begun bytes more a h)
    last_on (Some ends.Quit) limit count begun bytes more left a h = inr (ends_on begun bytes more a h)
    last_on (Some ends.Limit) limit count begun bytes more left a h = inl (no_quit_on begun bytes more a h.0)
    last_on (Some ends.WriteFault) limit count begun bytes more left a h = absurd h
    last_on (Some ends.Memory) limit count begun bytes more left a h = absurd h
    last_on (Some ends.Ended) limit count begun bytes more left a h = absurd h
    last_on (Some ends.ReadFault) limit count begun bytes more left a h = absurd h

    pub ahead_more : {session session' session'' : TheSession} {first : D} {start : Taken} {now at new : D} {sink sink' : Taken} {begun bytes : List ℕ} {withheld : List Withheld} {halt : Option End} {shown : List ℕ} (more left : List ℕ)
        → (a : Ahead session first start now sink session' begun bytes) → Took takes session' now [] (rest_after begun bytes) more left session'' at withheld halt shown
        → halt ≡ None → TellsWithheld releases moves shown withheld at new None sink sink' → Ahead session first start new sink' session'' begun (bytes ++ more)
    ahead_more {session' = session'} {session'' = session''} {begun = begun} {bytes = bytes} more left a t goes told = record {
      told = told_on more left None a t told;
      no_quit = no_quit_on begun bytes more a.no_quit
          (subst (λ (h : Option End). Halts h session'.limit session''.answered (lines_after (rest_after begun bytes) more) (rest_after (rest_after begun bytes) more) left) goes t.halts);
      line = t.line ∙ ap kept_part (sym (rest_after-append begun bytes more));
      limit = t.limit ∙ a.limit;
    }

    -- the lines that are left
    behind : (begun bytes more left all : List ℕ) → (bytes ++ more) ++ left ≡ all → lines_after begun (bytes ++ more) ++ lines_after (rest_after (rest_after begun bytes) more) left ≡ lines_after begun all
    behind begun bytes more left all whole =
        ap (λ (t : List ℕ). lines_after begun (bytes ++ more) ++ lines_after t left) (sym (rest_after-append begun bytes more)) ∙ sym (lines_after-append begun (bytes ++ more) left) ∙ ap (lines_after begun) whole

    -- the session ends with the last taking: writing broke off; ..
    pub feed_broken : {session session' session'' : TheSession} {first : D} {start : Taken} {now at new : D} {sink sink' : Taken} {begun bytes : List ℕ} {withheld : List Withheld} {halt : Option End} {shown : List ℕ} (more left all : List ℕ) (end : End)
        → (a : Ahead session first start now sink session' begun bytes) → Took takes session' now [] (rest_after begun bytes) more left session'' at withheld halt shown
        → TellsWithheld releases moves shown withheld at new (Some end) sink sink' → (bytes ++ more) ++ left ≡ all
        → Fed takes releases moves session first start (lines_after begun all) session'' new sink' (Some end)
    feed_broken {session = session} {session'' = session''} {begun = begun} {bytes = bytes} {halt = halt} more left all end a t told whole =
        fed_broken (lines_after (rest_after (rest_after begun bytes) more) left) (lines_after begun all) end (told_on more left (Some end) a t told) (behind begun bytes more left all whole) (t.limit ∙ a.limit)
        (last_on halt _ session''.answered begun bytes more left a.no_quit t.halts)

    -- .. or the taking had this end
    halted : {session session' : TheSession} {first : D} {start : Taken} {now : D} {sink sink' : Taken} {begun bytes : List ℕ} {new : D} (session'' : TheSession) (more left : List ℕ) (halt : End)
        → (a : Ahead session first start now sink session' begun bytes) → (told : AllTold session first start new sink' session''.answered (lines_after begun (bytes ++ more)) None)
        → Halts (Some halt) session'.limit session''.answered (lines_after (rest_after begun bytes) more) (rest_after (rest_after begun bytes) more) left
        → (has_write_fault (Some halt) ≡ false)
        × Stands (Some halt) (Gathers start sink') session.limit session''.answered (lines_after begun (bytes ++ more)) (lines_after (rest_after (rest_after begun bytes) more) left) told.said start sink'
    halted {begun = begun} {bytes = bytes} session'' more left ends.Quit a told h = (refl, (ends_on begun bytes more a.no_quit h, told.told))
    halted {begun = begun} {bytes = bytes} session'' more left ends.Limit a told h =
        (refl, (no_quit_on begun bytes more a.no_quit h.0, told.told, record { reached = h.1.reached ∙ a.limit; more = h.1.more }))
    halted session'' more left ends.WriteFault a told h = absurd h
    halted session'' more left ends.Memory a told h = absurd h
    halted session'' more left ends.Ended a told h = absurd h
    halted session'' more left ends.ReadFault a told h = absurd h

    pub feed_halted : {session session' session'' : TheSession} {first : D} {start : Taken} {now at new : D} {sink sink' : Taken} {begun bytes : List ℕ} {withheld : List Withheld} {end : Option End} {shown : List ℕ} (more left all : List ℕ) (halt : End)
        → (a : Ahead session first start now sink session' begun bytes) → Took takes session' now [] (rest_after begun bytes) more left session'' at withheld end shown
        → end ≡ Some halt → TellsWithheld releases moves shown withheld at new None sink sink' → (bytes ++ more) ++ left ≡ all
        → Fed takes releases moves session first start (lines_after begun all) session'' new sink' (Some halt)
    feed_halted {session' = session'} {session'' = session''} {begun = begun} {bytes = bytes} more left all halt a t ends_so told whole =
        let told_so = told_on more left None a t told in
        let so = halted session'' more left halt a told_so
        (subst (λ (h : Option End). Halts h session'.limit session''.answered (lines_after (rest_after begun bytes) more) (rest_after (rest_after begun bytes) more) left) ends_so t.halts) in
        fed_all (lines_after (rest_after (rest_after begun bytes) more) left) (lines_after begun all) (Some halt) told_so (behind begun bytes more left all whole) (t.limit ∙ a.limit) so.0 so.1

    no_rest : (xs : List ℕ) → (length xs == 0) ≡ true → xs ≡ []
    no_rest [] none = refl
    no_rest (x ∷ xs) none = let some = ne_eqb (length (x ∷ xs)) 0 (λ z. absurd (omega (arith, z))) in absurd (cc (none, some))

    -- the answers to all bytes are written
    pub feed_all : {session session' : TheSession} {first : D} {start : Taken} {now : D} {sink : Taken} {bytes : List ℕ} (fed rest all : List ℕ)
        → (a : Ahead session first start now sink session' (unfinished_line fed) bytes) → bytes ++ rest ≡ all → (length rest == 0) ≡ true
        → Fed takes releases moves session first start (lines_after (unfinished_line fed) all) session' now sink None
        × (session'.line ≡ kept_part (unfinished_line (fed ++ all)))
    feed_all {session} {session'} {first} {start} {now} {sink} {bytes} fed rest all a whole none =
        let is : bytes ≡ all = sym (append-nil bytes) ∙ ap (λ (t : List ℕ). bytes ++ t) (sym (no_rest rest none)) ∙ whole in (
          fed_whole (lines_after (unfinished_line fed) all) None a.told (ap (lines_after (unfinished_line fed)) is) a.limit a.no_quit,
          a.line ∙ ap (λ (t : List ℕ). kept_part (rest_after (unfinished_line fed) t)) is ∙ ap kept_part (sym (rest_after-append [] fed all)),
        )

    -- the gathered text is flushed
    pub served : {session session' : TheSession} {first now : D} {start mid new : Taken} {lines : List (List ℕ)} (end : Option End) → has_write_fault end ≡ false → Flushes mid new
        → Fed takes releases moves session first start lines session' now mid end → Served takes releases moves session first start lines session' now new end
    served {session} {session'} {start = start} {mid = mid} {new = new} end none f h = record {
      answered = h.answered;
      left = h.left;
      these = h.these;
      said = h.said;
      answers = h.answers;
      counted = h.counted;
      limit = h.limit;
      within = h.within;
      stands = flushes end session.limit session'.answered h.answered h.left h.said start mid new none f h.stands;
      sound = λ sound. f.failed ∙ h.sound sound;
    }

    -- a write failed
    pub served_part : {session session' : TheSession} {first now : D} {start new : Taken} {lines : List (List ℕ)} (end : Option End) → has_write_fault end ≡ true
        → Fed takes releases moves session first start lines session' now new end → Served takes releases moves session first start lines session' now new end
    served_part {session} {session'} {start = start} {new = new} end fault h = record {
      answered = h.answered;
      left = h.left;
      these = h.these;
      said = h.said;
      answers = h.answers;
      counted = h.counted;
      limit = h.limit;
      within = h.within;
      stands = unflushed end session.limit session'.answered h.answered h.left h.said start new fault h.stands;
      sound = h.sound;
    }

    -- the flush failed
    pub served_broken : {session session' : TheSession} {first now : D} {start mid new : Taken} {lines : List (List ℕ)} (end : Option End) → has_write_fault end ≡ false → FailsToTake mid new
        → Fed takes releases moves session first start lines session' now mid end → Served takes releases moves session first start lines session' now new (Some ends.WriteFault)
    served_broken {session} {session'} {start = start} {mid = mid} {new = new} end none f h = record {
      answered = h.answered;
      left = h.left;
      these = h.these;
      said = h.said;
      answers = h.answers;
      counted = h.counted;
      limit = h.limit;
      within = h.within;
      stands = flush_fails end session.limit session'.answered h.answered h.left h.said start mid new none f h.stands;
      sound = λ sound. f.failed;
    }

    -- a session between its reads: the answers to all lines of its input were delivered
    pub record SoFar (limit : ℕ) (first : D) (start : Taken) (now : D) (sink : Taken) (session : TheSession) (input : List ℕ) : Type 0 where
      pub said : List Answer
      pub answers : AnswersLines takes releases moves first (input_lines input) said now
      pub no_quit : NoQuit (input_lines input)
      pub counted : session.answered ≡ length said
      pub limit_is : session.limit ≡ limit
      pub within : session.answered ≤ session.limit
      pub delivered : DeliversAll start sink said
      pub sound : sink.failed ≡ false
      pub begun : session.line ≡ kept_part (unfinished_line input)

    pub so_far_none : (limit : ℕ) (first : D) (start : Taken) (session : TheSession) → session.line ≡ [] → session.answered ≡ 0 → session.limit ≡ limit → start.failed ≡ false
        → SoFar limit first start first start session []
    unfolding lines_after rest_after
    so_far_none limit first start session line answered is sound = record {
      said = [];
      answers = no_lines_answered first;
      no_quit = All-nil _;
      counted = answered;
      limit_is = is;
      within = omega arith;
      delivered = record { bytes = sym (append-nil start.bytes); flushed = λ none. absurd (omega (arith, none)) };
      sound = sound;
      begun = line;
    }

    -- a session without memory reads nothing
    pub closed_unread : (limits : Limits) (desk : D) (source : Told) (sink : Taken) → source.ended ≡ false → source.failed ≡ false → sink.failed ≡ false
        → Session takes releases moves limits desk source sink desk source sink ends.Memory
    unfolding lines_after rest_after
    closed_unread limits desk source sink unended unfailed sound = record {
      input = [];
      read = sym (append-nil source.bytes);
      answered = [];
      left = [];
      these = refl;
      said = [];
      answers = no_lines_answered desk;
      lines_within = omega arith;
      reads_within = omega arith;
      closes = (refl, refl);
      ended = unended;
      read_failed = unfailed;
      write_failed = sound;
    }

    delivers_more : (old mid new : Taken) (before more : List Answer) → DeliversAll old mid before → Delivered mid new more → DeliversAll old new (before ++ more)
    delivers_more old mid new before more a b = record {
      bytes = b.bytes ∙ ap (λ (t : List ℕ). t ++ session_text more) a.bytes ∙ append_assoc old.bytes (session_text before) (session_text more) ∙ ap (λ (t : List ℕ). old.bytes ++ t) (sym (flat_map-append text before more));
      flushed = λ some. b.flushed;
    }

    -- the lines of one more read
    pub so_far_more : {limit : ℕ} {first now new : D} {start sink sink' : Taken} {session session' : TheSession} {input : List ℕ} (chunk : List ℕ) → SoFar limit first start now sink session input
        → Served takes releases moves session now sink (lines_after (unfinished_line input) chunk) session' new sink' None → session'.line ≡ kept_part (unfinished_line (input ++ chunk))
        → SoFar limit first start new sink' session' (input ++ chunk)
    so_far_more {first = first} {now = now} {new = new} {start = start} {sink = sink} {sink' = sink'} {input = input} chunk a h begun =
        let n = length-append a.said h.said in
        let all : input_lines input ++ h.answered ≡ input_lines (input ++ chunk) =
        ap (λ (t : List (List ℕ)). input_lines input ++ t) (sym (append-nil h.answered) ∙ ap (λ (t : List (List ℕ)). h.answered ++ t) (sym h.stands.0.all) ∙ sym h.these) ∙ sym (lines_after-append [] input chunk) in
        let counted = a.counted in
        let more = h.counted in record {
          said = a.said ++ h.said;
          answers = subst (λ (xs : List (List ℕ)). AnswersLines takes releases moves first xs (a.said ++ h.said) new) all (answers_both first (input_lines input) h.answered a.said h.said now new a.answers h.answers);
          no_quit = subst NoQuit all (no_quit_both (input_lines input) h.answered a.no_quit h.stands.0.no_quit);
          counted = omega arith;
          limit_is = h.limit ∙ a.limit_is;
          within = omega (arith, h.within, h.limit);
          delivered = delivers_more start sink sink' a.said h.said a.delivered h.stands.1;
          sound = h.sound a.sound;
          begun = begun;
        }

    before_last_both : (xs ys : List (List ℕ)) → NoQuit xs → NoQuitBeforeLast ys → NoQuitBeforeLast (xs ++ ys)
    before_last_both xs ys a (inl b) = inl (no_quit_both xs ys a b)
    before_last_both xs ys a (inr b) = inr (ends_both xs ys a b)

    breaks_off : (input chunk : List ℕ) (start sink sink' : Taken) (said more : List Answer) → length said ≡ length (input_lines input) → length chunk ≤ 4096
        → DeliversAll start sink said → DeliversPart sink sink' (session_text more) → BreaksOff start sink' (input ++ chunk) (said ++ more)
    breaks_off input chunk start sink sink' said more whole one a b = record {
      earlier = input;
      last = chunk;
      reads = refl;
      one = one;
      before = said;
      gathered = more;
      these = refl;
      whole = whole;
      written = b.written;
      unwritten = b.unwritten;
      cut = b.cut;
      bytes = b.bytes ∙ ap (λ (t : List ℕ). t ++ b.written) a.bytes;
      flushed = λ none some. b.flushed none ∙ a.flushed some;
    }

    closes : {limit : ℕ} {first now new : D} {start sink sink' : Taken} {session session' : TheSession} {input : List ℕ} (limits : Limits) (source source' : Told) (chunk : List ℕ) (end : End)
        → length chunk ≤ 4096 → limit ≡ limits.lines → (a : SoFar limit first start now sink session input)
        → (h : Served takes releases moves session now sink (lines_after (unfinished_line input) chunk) session' new sink' (Some end))
        → Closes end limits (input ++ chunk) (input_lines input ++ h.answered) h.left (a.said ++ h.said) source source' start sink'
    closes {start = start} {sink = sink} {sink' = sink'} {input = input} limits source source' chunk ends.Quit one is a h =
        (ends_both (input_lines input) h.answered a.no_quit h.stands.0, delivers_more start sink sink' a.said h.said a.delivered h.stands.1)
    closes {start = start} {sink = sink} {sink' = sink'} {session = session} {input = input} limits source source' chunk ends.Limit one is a h =
        let n = length-append a.said h.said in
        let counted = a.counted in
        let more = h.counted in (
          no_quit_both (input_lines input) h.answered a.no_quit h.stands.0,
          delivers_more start sink sink' a.said h.said a.delivered h.stands.1,
          inl (record { reached = omega (arith, n, counted, more, h.stands.2.reached, a.limit_is, is); more = h.stands.2.more }),
        )
    closes {first = first} {now = now} {start = start} {sink = sink} {sink' = sink'} {input = input} limits source source' chunk ends.WriteFault one is a h = (
      before_last_both (input_lines input) h.answered a.no_quit h.stands.0,
      breaks_off input chunk start sink sink' a.said h.said (answered_length first (input_lines input) a.said now a.answers) one a.delivered h.stands.1,
    )
    closes limits source source' chunk ends.Memory one is a h = absurd h.stands
    closes limits source source' chunk ends.Ended one is a h = absurd h.stands
    closes limits source source' chunk ends.ReadFault one is a h = absurd h.stands

    -- no read had such an end
    source_marks : (end : End) (tells : List Answer → Type 0) (limit count : ℕ) (answered left : List (List ℕ)) (said : List Answer) (sink sink' : Taken)
        → Stands (Some end) tells limit count answered left said sink sink' → (is_input_end end ≡ false) × (is_read_fault end ≡ false)
    source_marks ends.Quit tells limit count answered left said sink sink' h = (refl, refl)
    source_marks ends.WriteFault tells limit count answered left said sink sink' h = (refl, refl)
    source_marks ends.Memory tells limit count answered left said sink sink' h = absurd h
    source_marks ends.Limit tells limit count answered left said sink sink' h = (refl, refl)
    source_marks ends.Ended tells limit count answered left said sink sink' h = absurd h
    source_marks ends.ReadFault tells limit count answered left said sink sink' h = absurd h

    -- a session that ended with the lines of a read
    pub closed : {first now new : D} {start sink sink' : Taken} {session session' : TheSession} {input : List ℕ} (limits : Limits) (source source' : Told) (chunk : List ℕ) (end : End)
        → length chunk ≤ 4096 → (a : SoFar limits.lines first start now sink session input)
        → Served takes releases moves session now sink (lines_after (unfinished_line input) chunk) session' new sink' (Some end)
        → source'.bytes ≡ source.bytes ++ (input ++ chunk) → source'.reads ≤ source.reads + limits.reads → source'.ended ≡ false → source'.failed ≡ false
        → Session takes releases moves limits first source start new source' sink' end
    closed {first} {now} {new} {start} {sink} {sink'} {session} {session'} {input} limits source source' chunk end one a h read reads unended unfailed =
        let n = length-append a.said h.said in
        let counted = a.counted in
        let more = h.counted in
        let marks = source_marks end (Delivered sink sink') session.limit session'.answered h.answered h.left h.said sink sink' h.stands in record {
          input = input ++ chunk;
          read = read;
          answered = input_lines input ++ h.answered;
          left = h.left;
          these = lines_after-append [] input chunk ∙ ap (λ (t : List (List ℕ)). input_lines input ++ t) h.these ∙ sym (append_assoc (input_lines input) h.answered h.left);
          said = a.said ++ h.said;
          answers = answers_both first (input_lines input) h.answered a.said h.said now new a.answers h.answers;
          lines_within = omega (arith, n, counted, more, h.within, a.limit_is);
          reads_within = reads;
          closes = closes limits source source' chunk end one refl a h;
          ended = unended ∙ sym marks.0;
          read_failed = unfailed ∙ sym marks.1;
          write_failed = h.sound a.sound;
        }

pub if_none : {P : Type 0} (o : Option End) → P → IfNone o P
if_none None p = p
if_none (Some end) p = tt
