-- How a worker's turn goes on, from one connection's turn to the next and from release to release.
use Rattle.std.proofs.Common.{◌≡◌, ◌≢◌, ◌≤◌, ◌<◌, ◌==◌, ◌+◌, ◌⊎◌, inl, inr, ℕ, zero, suc, List, [], ◌∷◌, ◌++◌, Option, Some, None, IsSome, Result, Ok, Err, IfOk, OnErr, cond, length, map, take, drop, All, refl, sym, ap, subst, ◌∙◌, arith, rules}
use Rattle.std.specs.List.{Contains}
use Rattle.std.proofs.lemmas.Bool.Decides.{eqb_tells, leb_tells}
use Rattle.std.proofs.lemmas.Grind.{flat_map-append}
use Rattle.std.proofs.lemmas.List.{append-nil, append_assoc, length-append, length-drop, drop-append-le, drop-drop, drop_at, take-append-le, take_at}
use Rattle.std.proofs.lemmas.List.Elements.{All-append, All-cons, All-nil, Contains-push_cases}
use Rattle.slab.specs.Slab.{Slab, Updates, get, with_value}
use Rattle.slab.proofs.SlabLemmas.{Updates-with_value}
use Rattle.nmvs_messages.specs.declared.ask.Ask.{Ask}
use Rattle.nmvs_messages.specs.declared.answer.Answer.{Answer}
use Rattle.nmvs_messages.specs.declared.end.End.{End}
use Rattle.nmvs_identifier.specs.Name.{Name}
use Rattle.nmvs_messages.specs.declared.peer.NameOf.{NameOf}
use Rattle.nmvs_messages.specs.declared.peer.NameOf.TheVariants as names
use Rattle.nmvs_messages.specs.declared.peer.Peer.{Peer}
use Rattle.nmvs_messages.specs.declared.peer.Peer.TheVariants as peers
use Rattle.nmvs_messages.specs.declared.withheld.Withheld.{Withheld}
use Rattle.nmvs_messages.specs.Peers.{peer_named}
use Rattle.nmvs_messages.specs.Withheld.{answer_of, AreReleased}
use Rattle.nmvs_protocol.specs.Session.{ReleasesAll, session_text}
use Rattle.nmvs_protocol.specs.Progress.{LastShows}
use Rattle.nmvs_protocol.proofs.SessionTelling.{all_length, all_released, released_shows}
use Rattle.nmvs_protocol.specs.Texts.{last_showing, text as text_of}
use Rattle.nmvs_stream.specs.InputLines.{input_lines}
use Rattle.nmvs_connections.specs.declared.next.Next.{Next}
use Rattle.nmvs_connections.specs.declared.connection.Connection.{Connection}
use Rattle.nmvs_connections.specs.declared.event_loop.EventLoop.{EventLoop}
use Rattle.nmvs_connections.specs.Peers.{PeerState, IsConnection, IsLater, IsNamed, NamesPeer, StaysPeer}
use Rattle.nmvs_connections.specs.declared.peer_session.Stage.TheVariants as stages
use Rattle.nmvs_connections.specs.Replies.{SessionState, LacksMemory, StaysOrLacks, replied}
use Rattle.nmvs_connections.specs.Turns.{Taking, Round, held_of, TakesBy, TakesAll, GoesRound, GoesRounds, lines_to, answers_to, takings_in, lines_in, answers_in, Answered, EachGoes, TookUnder, AllBehind, StayBehind, Stays, OnlyCloses, WorkerTurn, Kept, WaitsForRelease, LinesTaken, ConnectionSteps, TellsOwn, TellsPeer, TellsWhereAsked, TellsAll, HasTurn, StepsOrStays, TurnOfOne}
use Rattle.nmvs_connections.proofs.ConnectionLemmas.{later_then, rests_later}

-- the withheld answers of more takings
pub held_of-append : (xs ys : List Taking) → held_of (xs ++ ys) ≡ held_of xs ++ held_of ys
held_of-append [] ys = refl
held_of-append (t ∷ xs) ys = ap (λ (l : List Withheld). t.held ++ l) (held_of-append xs ys) ∙ sym (append_assoc t.held (held_of xs) (held_of ys))

lines_to-append : (key : ℕ) (xs ys : List Taking) → lines_to key (xs ++ ys) ≡ lines_to key xs ++ lines_to key ys
lines_to-append key [] ys = refl
lines_to-append key (t ∷ xs) ys =
    let own = cond (t.key == key) t.lines [] in
    ap (λ (l : List (List ℕ)). own ++ l) (lines_to-append key xs ys) ∙ sym (append_assoc own (lines_to key xs) (lines_to key ys))

answers_to-append : (key : ℕ) (xs ys : List Taking) (said : List Answer) → answers_to key (xs ++ ys) said ≡ answers_to key xs said ++ answers_to key ys (drop (length (held_of xs)) said)
answers_to-append key [] ys said = refl
answers_to-append key (t ∷ xs) ys said =
    let own = cond (t.key == key) (take (length t.held) said) [] in
    let rest = drop (length t.held) said in
    let gone : drop (length (held_of xs)) rest ≡ drop (length (t.held ++ held_of xs)) said =
    drop-drop (length (held_of xs)) (length t.held) said ∙ ap (λ (n : ℕ). drop n said) (sym (length-append t.held (held_of xs))) in
    ap (λ (l : List Answer). own ++ l) (answers_to-append key xs ys rest)
    ∙ sym (append_assoc own (answers_to key xs rest) (answers_to key ys (drop (length (held_of xs)) rest)))
    ∙ ap (λ (l : List Answer). (own ++ answers_to key xs rest) ++ answers_to key ys l) gone

takings_in-append : (xs ys : List Round) → takings_in (xs ++ ys) ≡ takings_in xs ++ takings_in ys
takings_in-append [] ys = refl
takings_in-append (r ∷ xs) ys = ap (λ (l : List Taking). r.takings ++ l) (takings_in-append xs ys) ∙ sym (append_assoc r.takings (takings_in xs) (takings_in ys))

-- all that was taken, with one round more
takings_more : (xs : List Round) (r : Round) → takings_in (xs ++ r ∷ []) ≡ takings_in xs ++ r.takings
takings_more xs r = takings_in-append xs (r ∷ []) ∙ ap (λ (l : List Taking). takings_in xs ++ l) (append-nil r.takings)

answers_in-append : (key : ℕ) (xs ys : List Round) → answers_in key (xs ++ ys) ≡ answers_in key xs ++ answers_in key ys
answers_in-append key [] ys = refl
answers_in-append key (r ∷ xs) ys =
    ap (λ (l : List Answer). answers_to key r.takings r.said ++ l) (answers_in-append key xs ys)
    ∙ sym (append_assoc (answers_to key r.takings r.said) (answers_in key xs) (answers_in key ys))

-- one taking more
takes_more : {D : Type 0} (takes : D → Peer → Ask → Withheld → D → Type 0) (old mid new : D) (takings : List Taking) (t : Taking)
    → TakesAll takes old takings mid → TakesBy takes t.peer mid t.lines t.held new → TakesAll takes old (takings ++ t ∷ []) new
takes_more {D} takes old mid new [] t a l = (new, subst (λ (d : D). TakesBy takes t.peer d t.lines t.held new) a l, refl)
takes_more takes old mid new (s ∷ takings) t a l = (a.0, a.1, takes_more takes a.0 mid new takings t a.2 l)

-- one round more
rounds_more : {D : Type 0} (takes : D → Peer → Ask → Withheld → D → Type 0) (releases : D → D → Withheld → Answer → Type 0) (moves : D → D → Type 0) (old mid new : D) (rounds : List Round) (r : Round)
    → GoesRounds takes releases moves old rounds mid → GoesRound takes releases moves mid r new → GoesRounds takes releases moves old (rounds ++ r ∷ []) new
rounds_more {D} takes releases moves old mid new [] r a g = (new, subst (λ (d : D). GoesRound takes releases moves d r new) a g, refl)
rounds_more takes releases moves old mid new (s ∷ rounds) r a g = (a.0, a.1, rounds_more takes releases moves a.0 mid new rounds r a.2 g)

nil_left : (xs ys : List ℕ) → xs ++ ys ≡ [] → xs ≡ []
nil_left [] ys e = refl
nil_left (x ∷ xs) ys e = absurd (cc e)

nil_right : (xs ys : List ℕ) → xs ++ ys ≡ [] → ys ≡ []
nil_right [] ys e = e
nil_right (x ∷ xs) ys e = absurd (cc e)

-- a connection within a turn: after some rounds, with answers since then that are to be released
pub record Stands (key : ℕ) (rounds : List Round) (takings : List Taking) (awaiting : List ℕ) (old new : SessionState) : Type 0 where
  pub lines : input_lines new.fed ≡ (input_lines old.fed ++ lines_in key rounds) ++ lines_to key takings
  pub text : List ℕ
  pub untold : List ℕ
  pub replies : replied new ≡ replied old ++ text
  pub text_is : session_text (answers_in key rounds) ≡ text ++ untold
  pub all : (untold ≡ []) ⊎ (LacksMemory new.ended × (new.waiting ≡ 0))
  pub waits : (said : List Answer) → length (held_of takings) ≤ length said → answers_to key takings said ≡ take new.waiting (drop new.first said)
  pub within : (new.waiting ≡ 0) ⊎ ((new.first + new.waiting ≤ length (held_of takings)) × Contains awaiting key)
  pub shows : LastShows new.awaited (map answer_of (take new.waiting (drop new.first (held_of takings))))

-- of no answers none shows entries
none_awaited : (shown : List ℕ) (waiting first : ℕ) (held : List Withheld) → waiting ≡ 0 → LastShows shown (map answer_of (take waiting (drop first held)))
none_awaited shown waiting first held told = subst (λ (n : ℕ). LastShows shown (map answer_of (take n (drop first held)))) (sym told) refl

-- a part of the withheld answers stays the same if more are withheld
part_still : (first waiting : ℕ) (held more : List Withheld) → first + waiting ≤ length held → take waiting (drop first (held ++ more)) ≡ take waiting (drop first held)
part_still first waiting held more within =
    let left = length-drop first held in
    ap (λ (l : List Withheld). take waiting l) (drop-append-le first held more (omega (arith, within))) ∙ take-append-le waiting (drop first held) more (omega (arith, within, left))

stands_first : (key : ℕ) (awaiting : List ℕ) (a : SessionState) → a.waiting ≡ 0 → Stands key [] [] awaiting a a
stands_first key awaiting a told = record {
  lines = sym (append-nil _ ∙ append-nil (input_lines a.fed));
  text = [];
  untold = [];
  replies = sym (append-nil (replied a));
  text_is = refl;
  all = inl refl;
  waits = λ said within. sym (ap (λ (n : ℕ). take n (drop a.first said)) told);
  within = inl told;
  shows = none_awaited a.awaited a.waiting a.first [] told;
}

stands_last : (key : ℕ) (rounds : List Round) (a b : SessionState) → Stands key rounds [] [] a b → Answered key rounds a b
stands_last key rounds a b s = record {
  lines = s.lines ∙ append-nil (input_lines a.fed ++ lines_in key rounds);
  text = s.text;
  untold = s.untold;
  replies = s.replies;
  text_is = s.text_is;
  all = elim s.all [ inl none ↦ inl none | inr lacks ↦ inr lacks.0 ];
  told = elim s.within [ inl told ↦ told | inr waits ↦ absurd (omega (arith, waits.1.1)) ];
}

-- more answers to others were withheld
stands_later : (key : ℕ) (rounds : List Round) (takings : List Taking) (t : Taking) (awaiting awaiting' : List ℕ) (a b : SessionState)
    → lines_to key (t ∷ []) ≡ [] → ((said : List Answer) → answers_to key (t ∷ []) said ≡ []) → (Contains awaiting key → Contains awaiting' key)
    → Stands key rounds takings awaiting a b → Stands key rounds (takings ++ t ∷ []) awaiting' a b
stands_later key rounds takings t awaiting awaiting' a b no_lines no_answers still s =
    let more = ap (λ (l : List Withheld). length l) (held_of-append takings (t ∷ [])) ∙ length-append (held_of takings) (held_of (t ∷ [])) in
    let before = input_lines a.fed ++ lines_in key rounds in record {
      lines = s.lines ∙ ap (λ (l : List (List ℕ)). before ++ l) (sym (lines_to-append key takings (t ∷ []) ∙ ap (λ (l : List (List ℕ)). lines_to key takings ++ l) no_lines ∙ append-nil (lines_to key takings)));
      text = s.text;
      untold = s.untold;
      replies = s.replies;
      text_is = s.text_is;
      all = s.all;
      waits = λ said enough. answers_to-append key takings (t ∷ []) said
          ∙ ap (λ (l : List Answer). answers_to key takings said ++ l) (no_answers (drop (length (held_of takings)) said))
          ∙ append-nil (answers_to key takings said)
          ∙ s.waits said (omega (arith, enough, more));
      within = elim s.within [ inl told ↦ inl told | inr waits ↦ inr (omega (arith, waits.0, more), still waits.1) ];
      shows = elim s.within [
        | inl told ↦ none_awaited b.awaited b.waiting b.first (held_of (takings ++ t ∷ [])) told
        | inr waits ↦
            let same = ap (λ (l : List Withheld). take b.waiting (drop b.first l)) (held_of-append takings (t ∷ [])) ∙ part_still b.first b.waiting (held_of takings) (held_of (t ∷ [])) waits.0 in
            subst (λ (l : List Withheld). LastShows b.awaited (map answer_of l)) (sym same) s.shows
      ];
    }

-- replies may have been sent
stands_kept : (key : ℕ) (rounds : List Round) (takings : List Taking) (awaiting : List ℕ) (a b c : SessionState) → Kept b c → Stands key rounds takings awaiting a b → Stands key rounds takings awaiting a c
stands_kept key rounds takings awaiting a b c k s = record {
  lines = ap (λ (f : List ℕ). input_lines f) k.fed ∙ s.lines;
  text = s.text;
  untold = s.untold;
  replies = k.text ∙ s.replies;
  text_is = s.text_is;
  all = elim s.all [ inl none ↦ inl none | inr lacks ↦ inr (subst (λ (e : Option End). LacksMemory e) (sym k.ended) lacks.0, k.waiting ∙ lacks.1) ];
  waits = λ said enough. s.waits said enough ∙ (λ i. take (sym k.waiting i) (drop (sym k.first i) said));
  within = elim s.within [
    | inl told ↦ inl (k.waiting ∙ told)
    | inr waits ↦ inr (let f = k.first in let w = k.waiting in let within = waits.0 in omega (arith, f, w, within), waits.1)
  ];
  shows = subst (λ (n : ℕ). LastShows c.awaited (map answer_of (take n (drop c.first (held_of takings))))) (sym k.waiting)
      (subst (λ (n : ℕ). LastShows c.awaited (map answer_of (take b.waiting (drop n (held_of takings))))) (sym k.first)
      (subst (λ (x : List ℕ). LastShows x (map answer_of (take b.waiting (drop b.first (held_of takings))))) (sym k.awaited) s.shows));
}

own_lines : (key : ℕ) (t : Taking) → t.key ≡ key → lines_to key (t ∷ []) ≡ t.lines
own_lines key t own = elim (eqb_tells t.key key) [
  | inl is ↦ ap (λ b. cond b t.lines [] ++ []) is.0 ∙ append-nil t.lines
  | inr apart ↦ absurd (apart.1 own)
]

own_answers : (key : ℕ) (t : Taking) (said : List Answer) → t.key ≡ key → answers_to key (t ∷ []) said ≡ take (length t.held) said
own_answers key t said own = elim (eqb_tells t.key key) [
  | inl is ↦ ap (λ b. cond b (take (length t.held) said) [] ++ []) is.0 ∙ append-nil (take (length t.held) said)
  | inr apart ↦ absurd (apart.1 own)
]

no_lines : (key : ℕ) (t : Taking) → (t.key ≡ key → ⊥) → lines_to key (t ∷ []) ≡ []
no_lines key t other = elim (eqb_tells t.key key) [
  | inl is ↦ absurd (other is.1)
  | inr apart ↦ ap (λ b. cond b t.lines [] ++ []) apart.0
]

no_answers : (key : ℕ) (t : Taking) (said : List Answer) → (t.key ≡ key → ⊥) → answers_to key (t ∷ []) said ≡ []
no_answers key t said other = elim (eqb_tells t.key key) [
  | inl is ↦ absurd (other is.1)
  | inr apart ↦ ap (λ b. cond b (take (length t.held) said) [] ++ []) apart.0
]

-- its lines were taken
stands_taken : (key : ℕ) (rounds : List Round) (takings : List Taking) (t : Taking) (awaiting awaiting' : List ℕ) (a b c : SessionState) → t.key ≡ key → Contains awaiting' key
    → LinesTaken t.lines t.held (length (held_of takings)) b c → Stands key rounds takings awaiting a b → Stands key rounds (takings ++ t ∷ []) awaiting' a c
stands_taken key rounds takings t awaiting awaiting' a b c own asks l s =
    let more = ap (λ (l : List Withheld). length l) (held_of-append takings (t ∷ [])) ∙ length-append (held_of takings) (held_of (t ∷ [])) in
    let last = ap (λ (l : List Withheld). length l) (append-nil t.held) in
    let before = input_lines a.fed ++ lines_in key rounds in
    let f = l.starts in
    let w = l.waits in record {
      lines = l.lines_are ∙ ap (λ (x : List (List ℕ)). x ++ t.lines) s.lines ∙ append_assoc before (lines_to key takings) t.lines
          ∙ ap (λ (x : List (List ℕ)). before ++ x) (sym (lines_to-append key takings (t ∷ []) ∙ ap (λ (x : List (List ℕ)). lines_to key takings ++ x) (own_lines key t own)));
      text = s.text;
      untold = s.untold;
      replies = l.text ∙ s.replies;
      text_is = s.text_is;
      all = elim s.all [ inl none ↦ inl none | inr lacks ↦ absurd (subst (λ (e : Option End). LacksMemory e) l.open_still lacks.0) ];
      waits = λ said enough. answers_to-append key takings (t ∷ []) said
          ∙ ap (λ (x : List Answer). x ++ answers_to key (t ∷ []) (drop (length (held_of takings)) said)) (s.waits said (omega (arith, enough, more)) ∙ ap (λ (n : ℕ). take n (drop b.first said)) l.told)
          ∙ own_answers key t (drop (length (held_of takings)) said) own
          ∙ (λ i. take (sym l.waits i) (drop (sym l.starts i) said));
      within = inr (omega (arith, f, w, more, last), asks);
      shows =
          let own_part : take c.waiting (drop c.first (held_of (takings ++ t ∷ []))) ≡ t.held =
          (λ i. take (l.waits i) (drop (l.starts i) (held_of-append takings (t ∷ []) i)))
          ∙ ap (λ (x : List Withheld). take (length t.held) x) (drop_at (held_of takings) (held_of (t ∷ [])) (length (held_of takings)) refl)
          ∙ take_at t.held [] (length t.held) refl in
          subst (λ (x : List Withheld). LastShows c.awaited (map answer_of x)) (sym own_part) l.shows;
    }

-- the texts of answers, one after the other
both_told : (first second : List Answer) (x u y v : List ℕ) → session_text first ≡ x ++ u → session_text second ≡ y ++ v → session_text (first ++ second) ≡ (x ++ u) ++ (y ++ v)
both_told first second x u y v e f = flat_map-append text_of first second ∙ (λ i. e i ++ f i)

-- a round has ended, and the answers to the connection's lines in it are replies, but for some text that is left out
stands_released : (key : ℕ) (rounds : List Round) (r : Round) (awaiting : List ℕ) (a b c : SessionState) (text untold : List ℕ)
    → c.fed ≡ b.fed → replied c ≡ replied b ++ text → session_text (answers_to key r.takings r.said) ≡ text ++ untold → c.waiting ≡ 0
    → (s : Stands key rounds r.takings awaiting a b)
    → ((s.untold ≡ []) × ((untold ≡ []) ⊎ LacksMemory c.ended)) ⊎ (LacksMemory c.ended × (text ≡ []) × (untold ≡ []))
    → Stands key (rounds ++ r ∷ []) [] [] a c
stands_released key rounds r awaiting a b c text untold fed replies part told s how =
    let own = answers_to key r.takings r.said in
    let lines_more = ap (λ (l : List Taking). lines_to key l) (takings_more rounds r) ∙ lines_to-append key (takings_in rounds) r.takings in
    let answers_more = answers_in-append key rounds (r ∷ []) ∙ ap (λ (l : List Answer). answers_in key rounds ++ l) (append-nil own) in
    let whole = ap (λ (l : List Answer). session_text l) answers_more ∙ both_told (answers_in key rounds) own s.text s.untold text untold s.text_is part in
    let lines = ap (λ (f : List ℕ). input_lines f) fed ∙ s.lines ∙ append_assoc (input_lines a.fed) (lines_in key rounds) (lines_to key r.takings)
    ∙ ap (λ (l : List (List ℕ)). input_lines a.fed ++ l) (sym lines_more) ∙ sym (append-nil (input_lines a.fed ++ lines_in key (rounds ++ r ∷ []))) in
    let sent = replies ∙ ap (λ (x : List ℕ). x ++ text) s.replies ∙ append_assoc (replied a) s.text text in
    let none = λ (said : List Answer) (enough : 0 ≤ length said). sym (ap (λ (n : ℕ). take n (drop c.first said)) told) in
    elim how [
      | inl goes ↦ record {
        lines = lines;
        text = s.text ++ text;
        untold = untold;
        replies = sent;
        text_is = whole ∙ ap (λ (x : List ℕ). x ++ (text ++ untold)) (ap (λ (u : List ℕ). s.text ++ u) goes.0 ∙ append-nil s.text) ∙ sym (append_assoc s.text text untold);
        all = elim goes.1 [ inl all ↦ inl all | inr lacks ↦ inr (lacks, told) ];
        waits = none;
        within = inl told;
        shows = none_awaited c.awaited c.waiting c.first [] told;
      }
      | inr lacks ↦ record {
        lines = lines;
        text = s.text ++ text;
        untold = s.untold;
        replies = sent;
        text_is = whole ∙ (λ i. (s.text ++ s.untold) ++ (lacks.1 i ++ lacks.2 i)) ∙ append-nil (s.text ++ s.untold)
            ∙ ap (λ (x : List ℕ). x ++ s.untold) (sym (ap (λ (y : List ℕ). s.text ++ y) lacks.1 ∙ append-nil s.text));
        all = inr (lacks.0, told);
        waits = none;
        within = inl told;
        shows = none_awaited c.awaited c.waiting c.first [] told;
      }
    ]

le_or_lt : (a b : ℕ) → (a ≤ b) ⊎ (b < a)
le_or_lt a b = elim (leb_tells a b) [ inl fits ↦ inl fits.1 | inr apart ↦ inr apart.1 ]

-- the part of a connection that asked is the answers to its own lines
part_is : (key : ℕ) (rounds : List Round) (takings : List Taking) (awaiting : List ℕ) (said part : List Answer) (a b : SessionState) → length said ≡ length (held_of takings)
    → (b.first + b.waiting ≤ length said → part ≡ take b.waiting (drop b.first said)) → (length said < b.first + b.waiting → part ≡ [])
    → Stands key rounds takings awaiting a b → answers_to key takings said ≡ part
part_is key rounds takings awaiting said part a b one its_own none s =
    let enough : length (held_of takings) ≤ length said = omega (arith, one) in
    elim (le_or_lt (b.first + b.waiting) (length said)) [
      | inl fits ↦ s.waits said enough ∙ sym (its_own fits)
      | inr past ↦ elim s.within [
        | inl told ↦ s.waits said enough ∙ ap (λ (n : ℕ). take n (drop b.first said)) told ∙ sym (none past)
        | inr waits ↦ absurd (let w = waits.0 in omega (arith, past, w, one))
      ]
    ]

-- a part of the withheld answers is released as that part of the released ones
drop_released : (releases : Withheld → Answer → Type 0) (n : ℕ) (held : List Withheld) (said : List Answer) → AreReleased releases held said → AreReleased releases (drop n held) (drop n said)
drop_released releases zero held said r = r
drop_released releases (suc n) [] [] r = tt
drop_released releases (suc n) (w ∷ held) (a ∷ said) r = drop_released releases n held said r.2
drop_released releases (suc n) [] (a ∷ said) r = absurd r
drop_released releases (suc n) (w ∷ held) [] r = absurd r

take_released : (releases : Withheld → Answer → Type 0) (n : ℕ) (held : List Withheld) (said : List Answer) → AreReleased releases held said → AreReleased releases (take n held) (take n said)
take_released releases zero held said r = tt
take_released releases (suc n) [] [] r = tt
take_released releases (suc n) (w ∷ held) (a ∷ said) r = (r.0, r.1, take_released releases n held said r.2)
take_released releases (suc n) [] (a ∷ said) r = absurd r
take_released releases (suc n) (w ∷ held) [] r = absurd r

-- the last answer of that part shows the awaited entries if it is a reply, and no other shows any
part_shows : (releases : Withheld → Answer → Type 0) (key : ℕ) (rounds : List Round) (takings : List Taking) (awaiting : List ℕ) (said part : List Answer) (a b : SessionState) → AreReleased releases (held_of takings) said
    → (b.first + b.waiting ≤ length said → part ≡ take b.waiting (drop b.first said)) → (length said < b.first + b.waiting → part ≡ [])
    → Stands key rounds takings awaiting a b → last_showing b.awaited part ≡ part
part_shows releases key rounds takings awaiting said part a b released its_own none s = elim (le_or_lt (b.first + b.waiting) (length said)) [
  | inl fits ↦
      let own = take_released releases b.waiting _ _ (drop_released releases b.first (held_of takings) said released) in
      subst (λ (l : List Answer). LastShows b.awaited l) (sym (its_own fits)) (released_shows releases b.awaited _ _ own s.shows)
  | inr past ↦ subst (λ (l : List Answer). LastShows b.awaited l) (sym (none past)) refl
]

-- a connection that waits for nothing has no part
no_part : (said part : List Answer) (text untold : List ℕ) (b : SessionState) → b.waiting ≡ 0
    → (b.first + b.waiting ≤ length said → part ≡ take b.waiting (drop b.first said)) → (length said < b.first + b.waiting → part ≡ [])
    → session_text (last_showing b.awaited part) ≡ text ++ untold → (text ≡ []) × (untold ≡ [])
no_part said part text untold b told its_own none text_is =
    let empty : part ≡ [] = elim (le_or_lt (b.first + b.waiting) (length said)) [
      | inl fits ↦ its_own fits ∙ ap (λ (n : ℕ). take n (drop b.first said)) told
      | inr past ↦ none past
    ] in
    let both : text ++ untold ≡ [] = sym text_is ∙ ap (λ (l : List Answer). session_text (last_showing b.awaited l)) empty in
    (nil_left text untold both, nil_right text untold both)

lacks_still : (ended ended' : Option End) (untold : List ℕ) → StaysOrLacks ended ended' untold → LacksMemory ended → LacksMemory ended'
lacks_still ended ended' untold s l = elim s [ inl stays ↦ subst (λ (e : Option End). LacksMemory e) (sym stays.0) l | inr lacks ↦ lacks ]

-- each connection that waited turned its part of the released answers into replies
stands_told : (releases : Withheld → Answer → Type 0) (key : ℕ) (rounds : List Round) (r : Round) (awaiting : List ℕ) (a b c : SessionState) → length r.said ≡ length (held_of r.takings) → AreReleased releases (held_of r.takings) r.said
    → TellsOwn r.said b c ⊎ ((c ≡ b) × (Contains awaiting key → ⊥)) → Stands key rounds r.takings awaiting a b → Stands key (rounds ++ r ∷ []) [] [] a c
stands_told releases key rounds r awaiting a b c one released t s = elim t [
  | inl told ↦
      let p = told.tells in
      let is = part_is key rounds r.takings awaiting r.said p.part a b one p.its_own p.none s in
      stands_released key rounds r awaiting a b c told.text p.untold told.fed told.replies (ap (λ (l : List Answer). session_text l) (is ∙ sym (part_shows releases key rounds r.takings awaiting r.said p.part a b released p.its_own p.none s)) ∙ p.text_is) told.told s
      (elim s.all [
        | inl none ↦ inl (none, elim p.stays [ inl stays ↦ inl stays.1 | inr lacks ↦ inr lacks ])
        | inr lacks ↦
            let n = no_part r.said p.part told.text p.untold b lacks.1 p.its_own p.none p.text_is in
            inr (lacks_still b.ended c.ended p.untold p.stays lacks.0, n.0, n.1)
      ])
  | inr silent ↦
      let told : b.waiting ≡ 0 = elim s.within [ inl told ↦ told | inr waits ↦ absurd (silent.1 waits.1) ] in
      let enough : length (held_of r.takings) ≤ length r.said = omega (arith, one) in
      let empty : answers_to key r.takings r.said ≡ [] = s.waits r.said enough ∙ ap (λ (n : ℕ). take n (drop b.first r.said)) told in
      let same = silent.0 in
      stands_released key rounds r awaiting a b c [] [] (ap (λ (d : SessionState). d.fed) same) (ap replied same ∙ sym (append-nil (replied b)))
      (ap (λ (l : List Answer). session_text l) empty) (ap (λ (d : SessionState). d.waiting) same ∙ told) s
      (elim s.all [
        | inl none ↦ inl (none, inl refl)
        | inr lacks ↦ inr (subst (λ (e : Option End). LacksMemory e) (sym (ap (λ (d : SessionState). d.ended) same)) lacks.0, refl, refl)
      ])
]

-- two steps of each connection, one after the other
pub each_then : {L : Type 0} (R S T : ℕ → PeerState → PeerState → Type 0) (s t u : Slab (Connection L)) → EachGoes R s t → EachGoes S t u
    → ((key : ℕ) (a b c : PeerState) → R key a b → S key b c → T key a c) → EachGoes T s u
each_then R S T s t u r q both = λ key connection there.
    let second = q key connection there in
    let first = r key second.0 second.1 in
    (first.0, first.1, both key first.0.session second.0.session connection.session first.2 second.2)

-- no step
pub each_stays : {L : Type 0} (R : ℕ → PeerState → PeerState → Type 0) (s : Slab (Connection L)) → ((key : ℕ) (a : PeerState) → R key a a) → EachGoes R s s
each_stays R s same = λ key connection there. (connection, there, same key connection.session)

-- the step of its session
tells_state : (said : List Answer) (awaiting : List ℕ) (key : ℕ) (a b : PeerState) → TellsWhereAsked said awaiting key a b → TellsOwn said a.session b.session ⊎ ((b.session ≡ a.session) × (Contains awaiting key → ⊥))
tells_state said awaiting key a b t = elim t [ inl told ↦ inl told.0 | inr silent ↦ inr (ap (λ (c : PeerState). c.session) silent.0, silent.1) ]

-- a connection is there, or none is
none_of : {A : Type 0} (now : Option A) → ((a : A) → now ≡ Some a → ⊥) → now ≡ None
none_of None never = refl
none_of (Some a) never = absurd (never a refl)

is_same : {A : Type 0} (a b : A) → Some a ≡ Some b → a ≡ b
is_same a b same = cc

no_value : {A : Type 0} (a : A) → None ≡ Some a → ⊥
no_value a both = absurd (cc both)

-- no connection comes
none_comes : {L : Type 0} (R : ℕ → PeerState → PeerState → Type 0) (s t : Slab (Connection L)) (key : ℕ) → EachGoes R s t → get s key ≡ None → get t key ≡ None
none_comes R s t key each none = none_of (get t key) (λ found there. let before = each key found there in no_value before.0 (sym none ∙ before.1))

-- of one more taking
own_more : (key : ℕ) (takings : List Taking) (t : Taking) (last last' : PeerState) → ((peer : Peer) → last.peer ≡ Some peer → last'.peer ≡ Some peer) → (t.key ≡ key → StaysPeer t.peer last'.peer)
    → All (λ (u : Taking). u.key ≡ key → StaysPeer u.peer last.peer) takings → All (λ (u : Taking). u.key ≡ key → StaysPeer u.peer last'.peer) (takings ++ t ∷ [])
own_more key takings t last last' stays own owns =
    let Own = λ (u : Taking). u.key ≡ key → StaysPeer u.peer last'.peer in
    All-append Own takings (t ∷ []) (λ k d within same peer known. stays peer (owns k d within same peer known)) (All-cons Own t [] own (All-nil Own))

lines_more : (key : ℕ) (takings : List Taking) (t : Taking) (lines : List (List ℕ)) → lines_to key (t ∷ []) ≡ lines → lines_to key (takings ++ t ∷ []) ≡ lines_to key takings ++ lines
lines_more key takings t lines is = lines_to-append key takings (t ∷ []) ∙ ap (λ (l : List (List ℕ)). lines_to key takings ++ l) is

-- the first state of a connection that is there
took_first : {L : Type 0} (key : ℕ) (now : Option (Connection L)) → ((connection : Connection L) → now ≡ Some connection → IsConnection connection.session) → TookUnder key [] now now
took_first key None holds = (refl, refl)
took_first {L} key (Some connection) holds = record {
  last = connection.session;
  is = holds connection refl;
  later = rests_later connection.session connection.session (refl, refl, refl);
  lines = sym (append-nil (input_lines connection.session.session.fed));
  own = All-nil (λ (t : Taking). t.key ≡ key → StaysPeer t.peer connection.session.peer);
  still = λ found there. ap (λ (c : Connection L). c.session) (sym (is_same connection found there));
}

-- another one had its turn
took_other : {L : Type 0} (key : ℕ) (takings : List Taking) (t : Taking) (was mid now : Option (Connection L)) → (t.key ≡ key → ⊥)
    → ((found : Connection L) → now ≡ Some found → (connection : Connection L) × (mid ≡ Some connection) × (found.session ≡ connection.session)) → (mid ≡ None → now ≡ None)
    → TookUnder key takings was mid → TookUnder key (takings ++ t ∷ []) was now
took_other key takings t None mid now other goes gone took = (lines_more key takings t [] (no_lines key t other) ∙ append-nil (lines_to key takings) ∙ took.0, gone took.1)
took_other key takings t (Some connection) mid now other goes gone took = record {
  last = took.last;
  is = took.is;
  later = took.later;
  lines = took.lines ∙ ap (λ (l : List (List ℕ)). input_lines connection.session.session.fed ++ l) (sym (lines_more key takings t [] (no_lines key t other) ∙ append-nil (lines_to key takings)));
  own = own_more key takings t took.last took.last (λ peer known. known) (λ same. absurd (other same)) took.own;
  still = λ found there. let before = goes found there in before.2 ∙ took.still before.0 before.1;
}

-- it had its turn itself
took_own : {L : Type 0} (key : ℕ) (takings : List Taking) (t : Taking) (was mid now : Option (Connection L)) (before after : PeerState) → t.key ≡ key → t.peer ≡ before.peer → (before.peer ≡ None → t.lines ≡ [])
    → HasTurn mid before after t.lines → ((found : Connection L) → now ≡ Some found → found.session ≡ after) → (mid ≡ None → now ≡ None)
    → TookUnder key takings was mid → TookUnder key (takings ++ t ∷ []) was now
took_own {L} key takings t None mid now before after own peer_is silent turn left gone took =
    let none : t.lines ≡ [] = silent (subst (λ (m : Option (Connection L)). HasTurn m before after t.lines) took.1 turn) in
    (lines_more key takings t [] (own_lines key t own ∙ none) ∙ append-nil (lines_to key takings) ∙ took.0, gone took.1)
took_own {L} key takings t (Some first) None now before after own peer_is silent turn left gone took = record {
  last = took.last;
  is = took.is;
  later = took.later;
  lines = took.lines ∙ ap (λ (l : List (List ℕ)). input_lines first.session.session.fed ++ l) (sym (lines_more key takings t [] (own_lines key t own ∙ silent turn) ∙ append-nil (lines_to key takings)));
  own = own_more key takings t took.last took.last (λ peer known. known) (λ same peer known. absurd (no_value peer (sym turn ∙ sym peer_is ∙ known))) took.own;
  still = λ found there. absurd (no_value found (sym (gone refl) ∙ there));
}
took_own {L} key takings t (Some first) (Some connection) now before after own peer_is silent turn left gone took =
    let same : before ≡ took.last = turn.0 ∙ took.still connection refl in record {
      last = after;
      is = turn.1;
      later = later_then first.session took.last after took.later (subst (λ (c : PeerState). IsLater c after) same turn.2);
      lines = turn.3 ∙ ap (λ (c : PeerState). input_lines c.session.fed ++ t.lines) same ∙ ap (λ (l : List (List ℕ)). l ++ t.lines) took.lines
          ∙ append_assoc (input_lines first.session.session.fed) (lines_to key takings) t.lines
          ∙ ap (λ (l : List (List ℕ)). input_lines first.session.session.fed ++ l) (sym (lines_more key takings t t.lines (own_lines key t own)));
      own = own_more key takings t took.last after (λ peer known. turn.2.peer peer (ap (λ (c : PeerState). c.peer) same ∙ known)) (λ _ peer known. turn.2.peer peer (sym peer_is ∙ known)) took.own;
      still = left;
    }

-- the released answers were told
took_told : {L : Type 0} (key : ℕ) (takings : List Taking) (said : List Answer) (awaiting : List ℕ) (was mid now : Option (Connection L))
    → ((found : Connection L) → now ≡ Some found → (connection : Connection L) × (mid ≡ Some connection) × TellsWhereAsked said awaiting key connection.session found.session) → (mid ≡ None → now ≡ None)
    → TookUnder key takings was mid → TookUnder key takings was now
took_told key takings said awaiting None mid now goes gone took = (took.0, gone took.1)
took_told key takings said awaiting (Some first) mid None goes gone took =
    record { last = took.last; is = took.is; later = took.later; lines = took.lines; own = took.own; still = λ found there. absurd (no_value found there) }
took_told {L} key takings said awaiting (Some first) mid (Some found) goes gone took =
    let before = goes found refl in
    let same : before.0.session ≡ took.last = took.still before.0 before.1 in
    let still = λ (other : Connection L) (there : Some found ≡ Some other). ap (λ (c : Connection L). c.session) (sym (is_same found other there)) in
    elim before.2 [
      | inl told ↦ record {
        last = found.session;
        is = told.1;
        later = later_then first.session took.last found.session took.later (subst (λ (c : PeerState). IsLater c found.session) same told.2);
        lines = ap (λ (f : List ℕ). input_lines f) told.0.fed ∙ ap (λ (c : PeerState). input_lines c.session.fed) same ∙ took.lines;
        own = λ k d within own peer known. told.2.peer peer (ap (λ (c : PeerState). c.peer) same ∙ took.own k d within own peer known);
        still = still;
      }
      | inr silent ↦ record {
        last = took.last;
        is = took.is;
        later = took.later;
        lines = took.lines;
        own = took.own;
        still = λ other there. still other there ∙ silent.0 ∙ same;
      }
    ]

-- all connections are behind the gateway still
pub behind_still : {L : Type 0} (R : ℕ → PeerState → PeerState → Type 0) (s t : Slab (Connection L)) → EachGoes R s t → ((key : ℕ) (a b : PeerState) → R key a b → IsConnection a → IsConnection b × (b.proxy ≡ a.proxy)) → StayBehind s t
behind_still R s t each goes = λ proxy all key found there.
    let before = each key found there in
    let was = all key before.0 before.1 in
    let is = goes key before.0.session found.session before.2 was.0 in (is.0, is.1 ∙ was.1)

pub as_before : (a b : PeerState) → b ≡ a → IsConnection a → IsConnection b × (b.proxy ≡ a.proxy)
as_before a b same is = (subst (λ (c : PeerState). IsConnection c) (sym same) is, ap (λ (c : PeerState). c.proxy) same)

pub behind_same : {L : Type 0} (s t : Slab (Connection L)) → EachGoes (λ key a b. b ≡ a) s t → StayBehind s t
behind_same s t each = behind_still (λ key a b. b ≡ a) s t each (λ key a b same. as_before a b same)

behind_told : {L : Type 0} (said : List Answer) (awaiting : List ℕ) (s t : Slab (Connection L)) → EachGoes (TellsWhereAsked said awaiting) s t → StayBehind s t
behind_told said awaiting s t each = behind_still (TellsWhereAsked said awaiting) s t each (λ key a b tells is. elim tells [
  | inl told ↦ (told.1, told.2.proxy)
  | inr silent ↦ (subst (λ (c : PeerState). IsConnection c) (sym silent.0) is, ap (λ (c : PeerState). c.proxy) silent.0)
])

-- behind a gateway nobody is anyone
not_anyone : (name_of : NameOf) (name : Name) → peers.Anyone ≡ peer_named name_of name → ⊥
not_anyone names.User name same = absurd (cc same)
not_anyone names.Authorisation name same = absurd (cc same)

named_peer : (proxy : Option NameOf) (peer : Option Peer) (header fed : List ℕ) → NamesPeer proxy peer header fed → IsNamed proxy peer
named_peer None peer header fed named = tt
named_peer (Some name_of) None header fed named = λ anyone. no_value peers.Anyone anyone
named_peer (Some name_of) (Some peer) header fed named = λ anyone. not_anyone name_of named.0 (sym (is_same peer peers.Anyone anyone) ∙ named.2)

named_turn : {L : Type 0} (proxy : Option NameOf) (now : Option (Connection L)) (before after : PeerState) (lines : List (List ℕ)) → ((connection : Connection L) → now ≡ Some connection → IsConnection connection.session × (connection.session.proxy ≡ proxy))
    → HasTurn now before after lines → IsNamed proxy before.peer
named_turn None now before after lines all turn = tt
named_turn (Some name_of) None before after lines all turn = λ anyone. no_value peers.Anyone (sym turn ∙ anyone)
named_turn (Some name_of) (Some connection) before after lines all turn =
    let is = all connection refl in
    let holds = is.0.1 in
    subst (λ (c : PeerState). IsNamed (Some name_of) c.peer) (sym turn.0)
    (subst (λ (p : Option NameOf). IsNamed p connection.session.peer) is.1 (named_peer connection.session.proxy connection.session.peer holds.header connection.session.session.fed holds.named))

-- a turn that is not over: after some rounds, with answers since then that are withheld
pub record OpenTurn {D L : Type 0} (proxy : Option NameOf) (takes : D → Peer → Ask → Withheld → D → Type 0) (releases : D → D → Withheld → Answer → Type 0) (moves : D → D → Type 0) (old new : D) (withheld : List Withheld) (awaiting : List ℕ) (connections connections' : Slab (Connection L)) : Type 0 where
  pub rounds : List Round
  pub takings : List Taking
  pub mid : D
  pub gone : GoesRounds takes releases moves old rounds mid
  pub taken : TakesAll takes mid takings new
  pub holds : withheld ≡ held_of takings
  pub took : (key : ℕ) → TookUnder key (takings_in rounds ++ takings) (get connections key) (get connections' key)
  pub named : All (λ (t : Taking). IsNamed proxy t.peer) (takings_in rounds ++ takings)
  pub behind : AllBehind proxy connections'
  pub each : EachGoes (λ key a b. a.session.waiting ≡ 0 → Stands key rounds takings awaiting a.session b.session) connections connections'

pub open_first : {D L : Type 0} (proxy : Option NameOf) (takes : D → Peer → Ask → Withheld → D → Type 0) (releases : D → D → Withheld → Answer → Type 0) (moves : D → D → Type 0) (desk : D) (withheld : List Withheld) (awaiting : List ℕ) (connections : Slab (Connection L))
    → withheld ≡ [] → AllBehind proxy connections → OpenTurn proxy takes releases moves desk desk withheld awaiting connections connections
open_first proxy takes releases moves desk withheld awaiting connections none behind = record {
  rounds = [];
  takings = [];
  mid = desk;
  gone = refl;
  taken = refl;
  holds = none;
  took = λ key. took_first key (get connections key) (λ connection there. (behind key connection there).0);
  named = All-nil (λ (t : Taking). IsNamed proxy t.peer);
  behind = behind;
  each = each_stays _ connections (λ key a told. stands_first key awaiting a.session told);
}

-- a connection after the turn of one, which may be itself
stands_behind : (key : ℕ) (rounds : List Round) (takings : List Taking) (t : Taking) (awaiting awaiting' : List ℕ) (first : ℕ) (a b c : SessionState) → first ≡ length (held_of takings)
    → (Contains awaiting key → Contains awaiting' key) → (key ≢ t.key → c ≡ b) × (key ≡ t.key → StepsOrStays awaiting' t.key t.lines t.held first b c)
    → Stands key rounds takings awaiting a b → Stands key rounds (takings ++ t ∷ []) awaiting' a c
stands_behind key rounds takings t awaiting awaiting' first a b c begins still goes s = elim (eqb_tells key t.key) [
  | inr apart ↦
      let other : t.key ≡ key → ⊥ = λ is. apart.1 (sym is) in
      subst (λ (d : SessionState). Stands key rounds (takings ++ t ∷ []) awaiting' a d) (sym (goes.0 apart.1)) (stands_later key rounds takings t awaiting awaiting' a b (no_lines key t other) (λ said. no_answers key t said other) still s)
  | inl is ↦
      elim (goes.1 is.1) [
        | inl kept ↦
            stands_later key rounds takings t awaiting awaiting' a c (own_lines key t (sym is.1) ∙ kept.1)
            (λ said. own_answers key t said (sym is.1) ∙ ap (λ (l : List Withheld). take (length l) said) kept.2)
            still (stands_kept key rounds takings awaiting a b c kept.0 s)
        | inr took ↦
            stands_taken key rounds takings t awaiting awaiting' a b c (sym is.1) (subst (λ (k : ℕ). Contains awaiting' k) (sym is.1) took.0)
            (subst (λ (n : ℕ). LinesTaken t.lines t.held n b c) begins took.1) s
      ]
]

-- what was taken under each key, after the turn of one
took_turn : {D L : Type 0} (other : ℕ) (all : List Taking) (key : ℕ) (old new : D) (takes : D → Peer → Ask → Withheld → D → Type 0) (withheld withheld' : List Withheld) (awaiting awaiting' : List ℕ) (s t u : Slab (Connection L))
    → (n : TurnOfOne takes key old new withheld withheld' awaiting awaiting' t u) → TookUnder other all (get s other) (get t other)
    → TookUnder other (all ++ record { key = key; peer = n.before.peer; lines = n.lines; held = n.held } ∷ []) (get s other) (get u other)
took_turn {D} {L} other all key old new takes withheld withheld' awaiting awaiting' s t u n took =
    let taking : Taking = record { key = key; peer = n.before.peer; lines = n.lines; held = n.held } in
    let gone = none_comes _ t u other n.each in
    elim (eqb_tells key other) [
      | inl is ↦
          took_own other all taking (get s other) (get t other) (get u other) n.before n.after is.1 refl (λ none. (subst (λ (p : Option Peer). TakesBy takes p old n.lines n.held new) none n.desk).0)
          (subst (λ (k : ℕ). HasTurn (get t k) n.before n.after n.lines) is.1 n.turn) (λ found there. n.left found (ap (λ (k : ℕ). get u k) is.1 ∙ there)) gone took
      | inr apart ↦
          took_other other all taking (get s other) (get t other) (get u other) apart.1
          (λ found there. let before = n.each other found there in (before.0, before.1, before.2.0 (λ same. apart.1 (sym same)))) gone took
    ]

behind_turn : {D L : Type 0} (proxy : Option NameOf) (takes : D → Peer → Ask → Withheld → D → Type 0) (key : ℕ) (old new : D) (withheld withheld' : List Withheld) (awaiting awaiting' : List ℕ) (t u : Slab (Connection L))
    → TurnOfOne takes key old new withheld withheld' awaiting awaiting' t u → AllBehind proxy t → AllBehind proxy u
behind_turn {D} {L} proxy takes key old new withheld withheld' awaiting awaiting' t u n all = λ other found there.
    let before = n.each other found there in
    let was = all other before.0 before.1 in
    elim (eqb_tells other key) [
      | inr apart ↦
          let same = before.2.0 apart.1 in
          (subst (λ (c : PeerState). IsConnection c) (sym same) was.0, ap (λ (c : PeerState). c.proxy) same ∙ was.1)
      | inl is ↦
          let here : get t key ≡ Some before.0 = ap (λ (k : ℕ). get t k) (sym is.1) ∙ before.1 in
          let turn = subst (λ (m : Option (Connection L)). HasTurn m n.before n.after n.lines) here n.turn in
          let same = n.left found (ap (λ (k : ℕ). get u k) (sym is.1) ∙ there) in
          (subst (λ (c : PeerState). IsConnection c) (sym same) turn.1, ap (λ (c : PeerState). c.proxy) same ∙ turn.2.proxy ∙ ap (λ (c : PeerState). c.proxy) turn.0 ∙ was.1)
    ]

-- the turn of one connection
pub open_taken : {D L : Type 0} (proxy : Option NameOf) (takes : D → Peer → Ask → Withheld → D → Type 0) (releases : D → D → Withheld → Answer → Type 0) (moves : D → D → Type 0) (key : ℕ) (old new next : D)
    (withheld withheld' : List Withheld) (awaiting awaiting' : List ℕ) (s t u : Slab (Connection L))
    → OpenTurn proxy takes releases moves old new withheld awaiting s t → TurnOfOne takes key new next withheld withheld' awaiting awaiting' t u
    → OpenTurn proxy takes releases moves old next withheld' awaiting' s u
open_taken {D} {L} proxy takes releases moves key old new next withheld withheld' awaiting awaiting' s t u o n =
    let taking : Taking = record { key = key; peer = n.before.peer; lines = n.lines; held = n.held } in
    let all = takings_in o.rounds ++ o.takings in
    let behind : all ++ taking ∷ [] ≡ takings_in o.rounds ++ (o.takings ++ taking ∷ []) = append_assoc (takings_in o.rounds) o.takings (taking ∷ []) in
    let Named = λ (t : Taking). IsNamed proxy t.peer in record {
      rounds = o.rounds;
      takings = o.takings ++ taking ∷ [];
      mid = o.mid;
      gone = o.gone;
      taken = takes_more takes o.mid new next o.takings taking o.taken n.desk;
      holds = n.behind ∙ ap (λ (l : List Withheld). l ++ n.held) o.holds ∙ sym (held_of-append o.takings (taking ∷ []) ∙ ap (λ (l : List Withheld). held_of o.takings ++ l) (append-nil n.held));
      took = λ other. subst (λ (l : List Taking). TookUnder other l (get s other) (get u other)) behind (took_turn other all key new next takes withheld withheld' awaiting awaiting' s t u n (o.took other));
      named = subst (λ (l : List Taking). All Named l) behind
          (All-append Named all (taking ∷ []) o.named (All-cons Named taking [] (named_turn proxy (get t key) n.before n.after n.lines (o.behind key) n.turn) (All-nil Named)));
      behind = behind_turn proxy takes key new next withheld withheld' awaiting awaiting' t u n o.behind;
      each = each_then _ _ _ s t u o.each n.each (λ other a b c stood goes told. stands_behind other o.rounds o.takings taking awaiting awaiting' (length withheld) a.session b.session c.session (ap (λ (l : List Withheld). length l) o.holds) (n.still other)
          (λ apart. ap (λ (x : PeerState). x.session) (goes.0 apart), goes.1) (stood told));
    }

-- what was taken before a release
abbrev released_round : List Taking → List Answer → Round
released_round takings said = record { takings = takings; said = said }

-- a release
pub open_told : {D L : Type 0} (proxy : Option NameOf) (takes : D → Peer → Ask → Withheld → D → Type 0) (releases : D → D → Withheld → Answer → Type 0) (moves : D → D → Type 0) (old new next : D)
    (withheld withheld' : List Withheld) (awaiting awaiting' : List ℕ) (s t u : Slab (Connection L))
    → OpenTurn proxy takes releases moves old new withheld awaiting s t → TellsAll releases moves new next withheld awaiting t u → withheld' ≡ [] → awaiting' ≡ []
    → OpenTurn proxy takes releases moves old next withheld' awaiting' s u
open_told proxy takes releases moves old new next withheld withheld' awaiting awaiting' s t u o n none silent =
    let r = released_round o.takings n.said in
    let released = subst (λ (l : List Withheld). ReleasesAll releases moves new l n.said next) o.holds n.released in
    let one = all_length releases moves new next (held_of o.takings) n.said released in
    let each_released = all_released releases moves new next (held_of o.takings) n.said released in
    let all : takings_in o.rounds ++ o.takings ≡ takings_in (o.rounds ++ r ∷ []) ++ [] = sym (append-nil (takings_in (o.rounds ++ r ∷ [])) ∙ takings_more o.rounds r) in record {
      rounds = o.rounds ++ r ∷ [];
      takings = [];
      mid = next;
      gone = rounds_more takes releases moves old o.mid next o.rounds r o.gone (record { asked = new; taken = o.taken; released = released });
      taken = refl;
      holds = none;
      took = λ other. subst (λ (l : List Taking). TookUnder other l (get s other) (get u other)) all
          (took_told other (takings_in o.rounds ++ o.takings) n.said awaiting (get s other) (get t other) (get u other) (n.each other) (none_comes _ t u other n.each) (o.took other));
      named = subst (λ (l : List Taking). All (λ (t : Taking). IsNamed proxy t.peer) l) all o.named;
      behind = behind_told n.said awaiting t u n.each proxy o.behind;
      each = subst (λ (l : List ℕ). EachGoes (λ key a b. a.session.waiting ≡ 0 → Stands key (o.rounds ++ r ∷ []) [] l a.session b.session) s u) (sym silent)
          (each_then _ _ _ s t u o.each n.each (λ other a b c stood goes told. stands_told (releases new next) other o.rounds r awaiting a.session b.session c.session one each_released (tells_state n.said awaiting other b c goes) (stood told)));
    }

-- a turn is over once nothing is withheld
pub open_last : {D L : Type 0} (proxy : Option NameOf) (takes : D → Peer → Ask → Withheld → D → Type 0) (releases : D → D → Withheld → Answer → Type 0) (moves : D → D → Type 0) (old new : D) (s t : Slab (Connection L))
    → OpenTurn proxy takes releases moves old new [] [] s t → WorkerTurn proxy takes releases moves old new s t
open_last proxy takes releases moves old new s t o =
    let r = released_round o.takings [] in
    let released = subst (λ (l : List Withheld). ReleasesAll releases moves new l [] new) o.holds (refl, refl) in
    let each_released = all_released releases moves new new (held_of o.takings) [] released in
    let all = sym (takings_more o.rounds r) in record {
      rounds = o.rounds ++ r ∷ [];
      desk = rounds_more takes releases moves old o.mid new o.rounds r o.gone (record { asked = new; taken = o.taken; released = released });
      took = λ key. subst (λ (l : List Taking). TookUnder key l (get s key) (get t key)) all (o.took key);
      named = subst (λ (l : List Taking). All (λ (u : Taking). IsNamed proxy u.peer) l) all o.named;
      each = λ key found there.
          let before = o.each key found there in (
            before.0,
            before.1,
            λ told.
                stands_last key (o.rounds ++ r ∷ []) before.0.session.session found.session.session
                (stands_told (releases new new) key o.rounds r [] before.0.session.session found.session.session found.session.session (ap (λ (l : List Withheld). length l) o.holds) each_released
                (inr (refl, λ asked. absurd (omega (arith, asked.1)))) (before.2 told)),
          );
    }

-- a connection that is given the released answers twice does nothing the second time
told_again : (said : List Answer) (a b c : SessionState) → TellsOwn said a b → TellsOwn said b c → TellsOwn said a c
told_again said a b c t u =
    let p = t.tells in
    let q = u.tells in
    let n = no_part said q.part u.text q.untold b t.told q.its_own q.none q.text_is in record {
      fed = u.fed ∙ t.fed;
      text = t.text;
      replies = u.replies ∙ ap (λ (x : List ℕ). replied b ++ x) n.0 ∙ append-nil (replied b) ∙ t.replies;
      tells = record {
        untold = p.untold;
        part = p.part;
        its_own = p.its_own;
        none = p.none;
        text_is = p.text_is;
        stays = elim p.stays [
          | inl stays ↦ elim q.stays [ inl still ↦ inl (still.0 ∙ stays.0, stays.1) | inr lacks ↦ inr lacks ]
          | inr lacks ↦ inr (lacks_still b.ended c.ended q.untold q.stays lacks)
        ];
      };
      told = u.told;
    }

-- a connection while those that asked take their part of the answers: it took it, or did nothing and is left if it asked
abbrev pub ToldSoFar : List Answer → List ℕ → List ℕ → ℕ → PeerState → PeerState → Type 0
ToldSoFar said awaiting left key old new = TellsPeer said old new ⊎ ((new ≡ old) × (Contains awaiting key → Contains left key))

-- the step in which the connection under a key takes its part of the answers
abbrev pub TellsOne : List Answer → ℕ → ℕ → PeerState → PeerState → Type 0
TellsOne said key other old new = (other ≡ key → TellsPeer said old new) × (other ≢ key → new ≡ old)

pub told_none : {L : Type 0} (said : List Answer) (awaiting : List ℕ) (s : Slab (Connection L)) → EachGoes (ToldSoFar said awaiting awaiting) s s
told_none said awaiting s = each_stays _ s (λ key a. inr (refl, λ h. h))

told_one : (said : List Answer) (awaiting left left' : List ℕ) (key other : ℕ) (a b c : PeerState) → left ≡ left' ++ key ∷ [] → ToldSoFar said awaiting left other a b
    → TellsOne said key other b c → ToldSoFar said awaiting left' other a c
told_one said awaiting left left' key other a b c popped told step = elim (eqb_tells other key) [
  | inl same ↦ elim told [
    | inl before ↦ let after = step.0 same.1 in inl (told_again said a.session b.session c.session before.0 after.0, after.1, later_then a b c before.2 after.2)
    | inr silent ↦ inl (subst (λ (d : PeerState). TellsPeer said d c) silent.0 (step.0 same.1))
  ]
  | inr apart ↦ elim told [
    | inl before ↦ inl (subst (λ (d : PeerState). TellsPeer said a d) (sym (step.1 apart.1)) before)
    | inr silent ↦ inr (
      step.1 apart.1 ∙ silent.0,
      λ asked.
          elim (Contains-push_cases left' key other (subst (λ (l : List ℕ). Contains l other) popped (silent.1 asked))) [
            | inl there ↦ there
            | inr is ↦ absurd (apart.1 (sym is))
          ],
    )
  ]
]

pub told_more : {L : Type 0} (said : List Answer) (awaiting left left' : List ℕ) (key : ℕ) (s t u : Slab (Connection L)) → left ≡ left' ++ key ∷ [] → EachGoes (ToldSoFar said awaiting left) s t
    → EachGoes (TellsOne said key) t u → EachGoes (ToldSoFar said awaiting left') s u
told_more said awaiting left left' key s t u popped told step = each_then _ _ _ s t u told step (λ other a b c before goes. told_one said awaiting left left' key other a b c popped before goes)

pub told_all : {L : Type 0} (said : List Answer) (awaiting left : List ℕ) (s t : Slab (Connection L)) → left ≡ [] → EachGoes (ToldSoFar said awaiting left) s t → EachGoes (TellsWhereAsked said awaiting) s t
told_all said awaiting left s t none told = λ key connection there.
    let one = told key connection there in (
      one.0,
      one.1,
      elim one.2 [
        | inl before ↦ inl before
        | inr silent ↦ inr (silent.0, λ asked. let h = subst (λ (l : List ℕ). Contains l key) none (silent.1 asked) in absurd (omega (arith, h.1)))
      ],
    )

-- a write of one connection
pub each_written : {L : Type 0} (R : ℕ → PeerState → PeerState → Type 0) (s t : Slab (Connection L)) (key : ℕ) (connection connection' : Connection L) → get s key ≡ Some connection → Updates s t key (Some connection')
    → R key connection.session connection'.session → ((other : ℕ) (a : PeerState) → other ≢ key → R other a a) → EachGoes R s t
each_written {L} R s t key connection connection' was writes own others = λ other found there. elim (eqb_tells other key) [
  | inl same ↦
      let is : Some connection' ≡ Some found = sym writes.changed ∙ ap (λ (k : ℕ). get t k) (sym same.1) ∙ there in
      let as_found : connection' ≡ found = cc in
      (connection, ap (λ (k : ℕ). get s k) same.1 ∙ was, subst (λ (k : ℕ). R k connection.session found.session) (sym same.1) (subst (λ (x : Connection L). R key connection.session x.session) as_found own))
  | inr apart ↦ (found, sym (writes.others other apart.1) ∙ there, others other found.session apart.1)
]

pub each_set : {L : Type 0} (R : ℕ → PeerState → PeerState → Type 0) (s : Slab (Connection L)) (key : ℕ) (connection connection' : Connection L) → Some connection ≡ get s key
    → R key connection.session connection'.session → ((other : ℕ) (a : PeerState) → other ≢ key → R other a a) → EachGoes R s (with_value s key connection')
each_set {L} R s key connection connection' was own others =
    let some : IsSome (Some connection) = search rules in
    let present : IsSome (get s key) = subst (λ (o : Option (Connection L)). IsSome o) was some in
    each_written R s (with_value s key connection') key connection connection' (sym was) (Updates-with_value s key connection' present) own others

-- a connection is closed
pub each_removed : {L : Type 0} (s t : Slab (Connection L)) (key : ℕ) → Updates s t key None → EachGoes (λ other a b. b ≡ a) s t
each_removed s t key removes = λ other found there. elim (eqb_tells other key) [
  | inl same ↦
      let none : None ≡ Some found = sym removes.changed ∙ ap (λ (k : ℕ). get t k) (sym same.1) ∙ there in
      absurd (cc)
  | inr apart ↦ (found, sym (removes.others other apart.1) ∙ there, refl)
]

-- a step that changes no connection, after another
pub each_still : {L : Type 0} (R : ℕ → PeerState → PeerState → Type 0) (s t u : Slab (Connection L)) → EachGoes R s t → EachGoes (λ other a b. b ≡ a) t u → EachGoes R s u
each_still R s t u first still = each_then _ _ _ s t u first still (λ other a b c goes same. subst (λ (d : PeerState). R other a d) (sym same) goes)

-- one step of a worker after another
pub stays_then : {L : Type 0} (a b c : EventLoop L) → Stays a b → Stays b c → Stays a c
stays_then a b c first second = (λ proxy all. second.0 proxy (first.0 proxy all), λ counted. second.1 (first.1 counted))

pub closes_then : {L : Type 0} (a b c : EventLoop L) → OnlyCloses a b → OnlyCloses b c → OnlyCloses a c
closes_then a b c first second =
    (second.0 ∙ first.0, each_still (λ key x y. y ≡ x) a.connections b.connections c.connections first.1 second.1, λ counted. second.2 (first.2 counted))

pub stays_closed : {L : Type 0} (a b : EventLoop L) → OnlyCloses a b → Stays a b
stays_closed a b closes = (behind_same a.connections b.connections closes.1, closes.2)

-- one connection was written
pub behind_set : {L : Type 0} (s : Slab (Connection L)) (key : ℕ) (connection connection' : Connection L) → Some connection ≡ get s key
    → (IsConnection connection.session → IsConnection connection'.session × (connection'.session.proxy ≡ connection.session.proxy)) → StayBehind s (with_value s key connection')
behind_set s key connection connection' was own =
    behind_still (λ other a b. IsConnection a → IsConnection b × (b.proxy ≡ a.proxy)) s (with_value s key connection')
    (each_set _ s key connection connection' was own (λ other a apart stands. (stands, refl))) (λ other a b goes. goes)

-- a connection came, or room for it was refused
pub behind_inserted : {L E : Type 0} (proxy : Option NameOf) (s t : Slab (Connection L)) (result : Result ℕ E) (connection : Connection L) → IfOk result (λ key. Updates s t key (Some connection)) → OnErr result (t ≡ record s { capacity = t.capacity })
    → IsConnection connection.session → connection.session.proxy ≡ proxy → AllBehind proxy s → AllBehind proxy t
behind_inserted {L} proxy s t (Ok key) connection comes same is own all = λ other found there. elim (eqb_tells other key) [
  | inl at ↦
      let here : connection ≡ found = is_same connection found (sym comes.changed ∙ ap (λ (k : ℕ). get t k) (sym at.1) ∙ there) in
      (subst (λ (c : Connection L). IsConnection c.session) here is, ap (λ (c : Connection L). c.session.proxy) (sym here) ∙ own)
  | inr apart ↦ all other found (sym (comes.others other apart.1) ∙ there)
]
behind_inserted {L} proxy s t (Err e) connection comes same is own all = λ other found there. all other found (ap (λ (u : Slab (Connection L)). get u other) (sym same) ∙ there)

-- the turn of one connection, which is then noted as waiting or not
pub turn_of_one : {D L : Type 0} (takes : D → Peer → Ask → Withheld → D → Type 0) (key : ℕ) (old new : D) (withheld withheld' : List Withheld) (awaiting awaiting' : List ℕ) (next : Next)
    (connections connections' : Slab (Connection L)) (connection connection' : Connection L) → Some connection ≡ get connections key
    → ConnectionSteps takes old new withheld withheld' next connection.session connection'.session → IsConnection connection'.session
    → EachGoes (λ other a b. b ≡ a) (with_value connections key connection') connections' → ((other : ℕ) → Contains awaiting other → Contains awaiting' other)
    → (WaitsForRelease next → (found : Connection L) → get connections' key ≡ Some found → Contains awaiting' key) → TurnOfOne takes key old new withheld withheld' awaiting awaiting' connections connections'
turn_of_one {L = L} takes key old new withheld withheld' awaiting awaiting' next connections connections' connection connection' was steps is dispatched still asks =
    let step = steps.step in
    let Own : PeerState → PeerState → Type 0 = λ a b. ((Kept a.session b.session × (step.lines ≡ []) × (step.held ≡ [])) ⊎ (WaitsForRelease next × LinesTaken step.lines step.held (length withheld) a.session b.session)) in
    let goes : Own connection.session connection'.session = elim steps.waits [
      | inl kept ↦ inl kept
      | inr waits ↦ elim step.goes [ inl kept ↦ inl kept | inr took ↦ inr (waits, took) ]
    ] in
    let before = input_lines connection.session.session.fed in
    let lines : input_lines connection'.session.session.fed ≡ before ++ step.lines = elim goes [
      | inl kept ↦ ap (λ (f : List ℕ). input_lines f) kept.0.fed ∙ sym (ap (λ (l : List (List ℕ)). before ++ l) kept.1 ∙ append-nil before)
      | inr took ↦ took.1.lines_are
    ] in
    let some : IsSome (Some connection) = search rules in
    let present : IsSome (get connections key) = subst (λ (o : Option (Connection L)). IsSome o) was some in record {
      before = connection.session;
      after = connection'.session;
      lines = step.lines;
      held = step.held;
      turn = subst (λ (m : Option (Connection L)). HasTurn m connection.session connection'.session step.lines) was (refl, is, steps.later, lines);
      left = λ found there.
          let second = dispatched key found there in
          let updates = Updates-with_value connections key connection' present in
          let own = is_same connection' second.0 (sym updates.changed ∙ second.1) in
          second.2 ∙ ap (λ (c : Connection L). c.session) (sym own);
      behind = step.behind;
      desk = step.desk;
      still = still;
      each = λ other found there.
          let second = dispatched other found there in
          let first = each_set (λ k a b. (k ≢ key → b ≡ a) × (k ≡ key → Own a b)) connections key connection connection' was
          (λ apart. absurd (apart refl), λ same. goes) (λ k a apart. (λ _. refl, λ same. absurd (apart same))) other second.0 second.1 in (
            first.0,
            first.1,
            (
              λ apart. second.2 ∙ first.2.0 apart,
              λ same. subst (λ (d : PeerState). StepsOrStays awaiting' key step.lines step.held (length withheld) first.0.session.session d.session) (sym second.2) (elim (first.2.1 same) [
                | inl kept ↦ inl kept
                | inr took ↦ inr (asks took.0 found (ap (λ (k : ℕ). get connections' k) (sym same) ∙ there), took.1)
              ]),
            ),
          );
    }

-- a connection of which nothing is known
abbrev nobody : PeerState
nobody = record {
  proxy = None;
  peer = None;
  stage = stages.Serving;
  stream = record { received = []; sent = [] };
  session = record { fed = []; sent = []; unsent = []; listed = []; ended = None; first = 0; waiting = 0; awaited = [] };
  unread = [];
  pending = [];
}

-- nobody has a turn
pub turn_of_none : {D L : Type 0} (takes : D → Peer → Ask → Withheld → D → Type 0) (key : ℕ) (desk : D) (withheld : List Withheld) (awaiting : List ℕ) (connections : Slab (Connection L))
    → None ≡ get connections key → TurnOfOne takes key desk desk withheld withheld awaiting awaiting connections connections
turn_of_none {D} {L} takes key desk withheld awaiting connections none = record {
  before = nobody;
  after = nobody;
  lines = [];
  held = [];
  turn = subst (λ (m : Option (Connection L)). HasTurn m nobody nobody []) none refl;
  left = λ found there. absurd (no_value found (none ∙ there));
  behind = sym (append-nil withheld);
  desk = (refl, refl, refl);
  still = λ other asks. asks;
  each = λ other found there. (
    found,
    there,
    (λ apart. refl, λ same. absurd (no_value found (none ∙ ap (λ (k : ℕ). get connections k) (sym same) ∙ there))),
  );
}

pub releases_none : {D : Type 0} (releases : D → D → Withheld → Answer → Type 0) (moves : D → D → Type 0) (how : Withheld → Answer → Type 0) (desk : D) (withheld : List Withheld) (said : List Answer)
    → length withheld ≡ 0 → AreReleased how withheld said → ReleasesAll releases moves desk withheld said desk
releases_none releases moves how desk [] [] none a = (refl, refl)
releases_none releases moves how desk [] (s ∷ said) none a = absurd a
releases_none releases moves how desk (w ∷ withheld) said none a = absurd (omega (arith, none))

pub releases_some : {D : Type 0} (releases : D → D → Withheld → Answer → Type 0) (moves : D → D → Type 0) (old new : D) (withheld : List Withheld) (said : List Answer)
    → (length withheld ≡ 0 → ⊥) → moves old new → AreReleased (releases old new) withheld said → ReleasesAll releases moves old withheld said new
releases_some releases moves old new [] said some m a = absurd (some refl)
releases_some releases moves old new (w ∷ withheld) said some m a = (m, a)
