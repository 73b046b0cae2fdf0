-- The operator's orders go on, line by line.
use Rattle.std.proofs.Common.{◌≡◌, ◌≢◌, ◌∙◌, ◌++◌, ◌∷◌, ◌+◌, ◌<◌, ◌≤◌, [], inl, inr, refl, sym, ap, subst, arith, ℕ, zero, suc, Bool, true, false, List, length, take, codes, Result, Ok, Err}
use Rattle.std.proofs.lemmas.List.{append-nil, append_assoc}
use Rattle.std.proofs.lemmas.List.Elements.{All-append, All-cons, All-nil}
use Rattle.std.specs.Prelude.{IfOk, MatchResult, slice_index}
use Rattle.nmvs_stream.specs.Source.{Told, Gives}
use Rattle.nmvs_stream.specs.Sink.{Taken}
use Rattle.nmvs_stream.specs.InputLines.{HasNoLf, lines_after, rest_after, input_lines, unfinished_line}
use Rattle.nmvs_stream.proofs.LinesOfPieces.{lines_after-append, rest_after-append, no_lf_both, no_line}
use Rattle.nmvs_messages.specs.PendingLines.{kept_part}
use Rattle.nmvs_messages.proofs.KeptLines.{kept_more}
use Rattle.nmvs_messages.specs.declared.command.Command.{Command}
use Rattle.nmvs_operator.specs.declared.faults.ObeyFault.{ObeyFault}
use Rattle.nmvs_operator.specs.declared.faults.ObeyFault.TheVariants as obey
use Rattle.nmvs_operator.specs.declared.order.Fixed.TheVariants as fixed
use Rattle.nmvs_operator.specs.declared.order.Order.{Order}
use Rattle.nmvs_operator.specs.declared.order.Order.TheVariants as orders
use Rattle.nmvs_operator.specs.Orders.{ReadsOrder}
use Rattle.nmvs_operator.specs.Commands.{Office, office, Does, Ways, Said, saying, Lists, Changes, Performs, AnswersRead, AnswersReadFollowing, AnswersOrder, AnswersOrders, Tries, TellsAnswers, GoesOn, InputEnds, ReadsLine, ReadsEnd, CarriesOut, answer_text, order_text, last_answer, stops, is_stop}
use Rattle.nmvs_operator.proofs.OrderLemmas.{kept_reads_order}
use Rattle.nmvs_operator.proofs.ReloadLemmas.{line_behind}

-- the kept part of an order is answered as the order is
kept_answers : {S : Type 0} (ways : Ways S) (old : Office S) (x : List ℕ) (a : Said) (new : Office S) → AnswersOrder ways old (kept_part x) a new → AnswersOrder ways old x a new
kept_answers ways old x a new h = (h.0, kept_reads_order x h.0 h.1, h.2)

answers_more : {S : Type 0} (ways : Ways S) (first : Office S) (xs : List (List ℕ)) (said : List Said) (now new : Office S) (x : List ℕ) (a : Said)
    → AnswersOrders ways first xs said now → AnswersOrder ways now x a new → AnswersOrders ways first (xs ++ x ∷ []) (said ++ a ∷ []) new
answers_more {S} ways first [] [] now new x a r s = (new, subst (λ (d : Office S). AnswersOrder ways d x a new) r s, refl)
answers_more ways first (y ∷ ys) (b ∷ bs) now new x a r s = (r.0, r.1, answers_more ways r.0 ys bs now new x a r.2 s)
answers_more ways first [] (b ∷ bs) now new x a r s = absurd r
answers_more ways first (y ∷ ys) [] now new x a r s = absurd r

told_more : (start : Taken) (said more : List Said) (now new : Taken) → TellsAnswers start said now → TellsAnswers now more new → TellsAnswers start (said ++ more) new
told_more start [] more now new r s = subst (λ (t : Taken). TellsAnswers t more new) r s
told_more start (b ∷ bs) more now new r s = (r.0, r.1, told_more r.0 bs more now new r.2 s)

one_byte : (b : ℕ) → b ≢ 10 → HasNoLf (b ∷ [])
one_byte b other zero lt = other
one_byte b other (suc k) lt = absurd (omega (arith, lt))

-- a byte more of a line
pub byte_more : {old new : Told} (start buffer line line' x : List ℕ) (count : ℕ) → length buffer ≡ 1 → count ≢ 0 → Gives old new buffer count → slice_index buffer 0 ≢ 10
    → old.bytes ≡ start ++ x → HasNoLf x → line ≡ kept_part x → line' ≡ kept_part (line ++ buffer)
    → HasNoLf (x ++ buffer) × (new.bytes ≡ start ++ (x ++ buffer)) × (line' ≡ kept_part (x ++ buffer))
byte_more start [] line line' x count single some gives other bytes one kept more = absurd (omega (arith, single))
byte_more start (b ∷ c ∷ cs) line line' x count single some gives other bytes one kept more = absurd (omega (arith, single))
byte_more {old} start (b ∷ []) line line' x count single some gives other bytes one kept more =
    let whole : count ≡ 1 = omega (arith, some, gives.fits) in (
      no_lf_both x (b ∷ []) one (one_byte b other),
      gives.bytes ∙ ap (λ (n : ℕ). old.bytes ++ take n (b ∷ [])) whole ∙ ap (λ (t : List ℕ). t ++ b ∷ []) bytes ∙ append_assoc start x (b ∷ []),
      more ∙ ap (λ (t : List ℕ). kept_part (t ++ b ∷ [])) kept ∙ kept_more x (b ∷ []),
    )

-- whole lines of a source were read and answered, no fewer than this, and none stopped the server
pub record Answered {S : Type 0} (ways : Ways S) (first : Office S) (source : Told) (start : Taken) (now : Office S) (source' : Told) (sink : Taken) (count : ℕ) : Type 0 where
  pub input : List ℕ
  pub read : source'.bytes ≡ source.bytes ++ input
  pub whole : unfinished_line input ≡ []
  pub said : List Said
  pub answers : AnswersOrders ways first (input_lines input) said now
  pub told : TellsAnswers start said sink
  pub goes_on : GoesOn said
  pub reads : source.reads + count ≤ source'.reads

pub none_answered : {S : Type 0} (ways : Ways S) (first : Office S) (source : Told) (start : Taken) → Answered ways first source start first source start 0
unfolding lines_after rest_after
none_answered ways first source start = record {
  input = [];
  read = sym (append-nil source.bytes);
  whole = refl;
  said = [];
  answers = refl;
  told = refl;
  goes_on = All-nil _;
  reads = omega arith;
}

-- one line more, with its answer
next_answers : {S : Type 0} {ways : Ways S} {first now : Office S} {source source' source'' : Told} {start sink : Taken} {count : ℕ} {kept : List ℕ} (new : Office S) (a : Said)
    (p : Answered ways first source start now source' sink count) (r : ReadsLine source' source'' kept) → AnswersOrder ways now kept a new
    → AnswersOrders ways first (input_lines (p.input ++ (r.line ++ 10 ∷ []))) (p.said ++ a ∷ []) new
next_answers {ways = ways} {first = first} {now = now} new a p r answers =
    let line = subst (λ (t : List ℕ). AnswersOrder ways now t a new) r.part answers in
    subst (λ (t : List (List ℕ)). AnswersOrders ways first t (p.said ++ a ∷ []) new) (sym (line_behind p.input r.line p.whole r.one).0)
    (answers_more ways first (input_lines p.input) p.said now new r.line a p.answers (kept_answers ways now r.line a new line))

read_more : {S : Type 0} {ways : Ways S} {first now : Office S} {source source' : Told} {start sink : Taken} {count : ℕ} (p : Answered ways first source start now source' sink count)
    (bytes more : List ℕ) → bytes ≡ source'.bytes ++ more → bytes ≡ source.bytes ++ (p.input ++ more)
read_more {source = source} p bytes more read = read ∙ ap (λ (t : List ℕ). t ++ more) p.read ∙ append_assoc source.bytes p.input more

pub one_more : {S : Type 0} {ways : Ways S} {first now : Office S} {source source' source'' : Told} {start sink : Taken} {count : ℕ} {kept : List ℕ} (new : Office S) (sink' : Taken) (a : Said)
    → Answered ways first source start now source' sink count → ReadsLine source' source'' kept → AnswersOrder ways now kept a new
    → Tries sink sink' (answer_text a) → is_stop a ≡ false → Answered ways first source start new source'' sink' (count + 1)
one_more {start = start} {sink = sink} new sink' a p r answers told goes = record {
  input = p.input ++ (r.line ++ 10 ∷ []);
  read = read_more p _ (r.line ++ 10 ∷ []) r.bytes;
  whole = (line_behind p.input r.line p.whole r.one).1;
  said = p.said ++ a ∷ [];
  answers = next_answers new a p r answers;
  told = told_more start p.said (a ∷ []) sink sink' p.told (sink', told, refl);
  goes_on = All-append (λ a. is_stop a ≡ false) p.said (a ∷ []) p.goes_on (All-cons (λ a. is_stop a ≡ false) a [] goes (All-nil _));
  reads = omega (arith, p.reads, r.reads);
}

-- one line more, which stops the server
pub one_stop : {S : Type 0} {ways : Ways S} {first now : Office S} {source source' source'' : Told} {start sink : Taken} {count : ℕ} {kept : List ℕ} (new : Office S) (sink' : Taken) (a : Said)
    → Answered ways first source start now source' sink count → ReadsLine source' source'' kept → AnswersOrder ways now kept a new
    → Tries sink sink' (answer_text a) → is_stop a ≡ true → CarriesOut ways first source start new source'' sink'
one_stop {start = start} {sink = sink} new sink' a p r answers told stopped = record {
  input = p.input ++ (r.line ++ 10 ∷ []);
  read = read_more p _ (r.line ++ 10 ∷ []) r.bytes;
  lines = input_lines (p.input ++ (r.line ++ 10 ∷ []));
  said = p.said ++ a ∷ [];
  answers = next_answers new a p r answers;
  ends = inr (record {
    all = refl;
    before = p.said;
    stop = a;
    last = refl;
    stopped = stopped;
    goes_on = p.goes_on;
    told = told_more start p.said (a ∷ []) sink sink' p.told (sink', told, refl);
  });
}

-- bytes without LF behind whole lines
end_behind : (input x : List ℕ) → unfinished_line input ≡ [] → HasNoLf x → (input_lines (input ++ x) ≡ input_lines input) × (unfinished_line (input ++ x) ≡ x)
unfolding lines_after rest_after
end_behind input x whole one =
    let none = no_line [] x one in (
      lines_after-append [] input x ∙ ap (λ (t : List ℕ). input_lines input ++ lines_after t x) whole ∙ ap (λ (t : List (List ℕ)). input_lines input ++ t) none.0 ∙ append-nil (input_lines input),
      rest_after-append [] input x ∙ ap (λ (t : List ℕ). rest_after t x) whole ∙ none.1,
    )

last_kept : (x : List ℕ) → last_answer (kept_part x) ≡ last_answer x
last_kept [] = refl
last_kept (b ∷ x) = refl

ends_later : (source source' source'' : Told) (count : ℕ) → source.reads + count ≤ source'.reads → InputEnds source' source'' → InputEnds source source''
ends_later source source' source'' count later (inl ended) = inl ended
ends_later source source' source'' count later (inr (inl failed)) = inr (inl failed)
ends_later source source' source'' count later (inr (inr most)) = inr (inr (omega (arith, later, most)))

-- the input is at its end
pub at_end : {S : Type 0} {ways : Ways S} {first now : Office S} {source source' source'' : Told} {start sink : Taken} {count : ℕ} {kept : List ℕ} (sink' : Taken)
    → Answered ways first source start now source' sink count → ReadsEnd source' source'' kept → TellsAnswers sink (last_answer kept) sink'
    → CarriesOut ways first source start now source'' sink'
at_end {ways = ways} {first = first} {now = now} {source = source} {source' = source'} {source'' = source''} {start = start} {sink = sink} {count = count} sink' p r told =
    let behind = end_behind p.input r.line p.whole r.one in
    let last : last_answer _ ≡ last_answer (unfinished_line (p.input ++ r.line)) = ap last_answer r.part ∙ last_kept r.line ∙ ap last_answer (sym behind.1) in record {
      input = p.input ++ r.line;
      read = read_more p _ r.line r.bytes;
      lines = input_lines (p.input ++ r.line);
      said = p.said;
      answers = subst (λ (t : List (List ℕ)). AnswersOrders ways first t p.said now) (sym behind.0) p.answers;
      ends = inl (record {
        all = refl;
        goes_on = p.goes_on;
        told = told_more start p.said _ sink sink' p.told (subst (λ (t : List Said). TellsAnswers sink t sink') last told);
        ends = ends_later source source' source'' count p.reads r.ends;
      });
    }

-- the most lines were read
pub most_read : {S : Type 0} {ways : Ways S} {first now : Office S} {source source' : Told} {start sink : Taken} {count : ℕ} → 18446744073709551615 ≤ count
    → Answered ways first source start now source' sink count → CarriesOut ways first source start now source' sink
most_read most p = record {
  input = p.input;
  read = p.read;
  lines = input_lines p.input;
  said = p.said;
  answers = p.answers;
  ends = inl (record {
    all = refl;
    goes_on = p.goes_on;
    told = rw (p.whole, append-nil p.said) p.told;
    ends = inr (inr (omega (arith, p.reads, most)));
  });
}

-- the text that was tried is the wanted one
pub tells : {old new : Taken} {text wanted : List ℕ} → text ≡ wanted → Tries old new text → Tries old new wanted
tells {old} {new} e tries = subst (λ (t : List ℕ). Tries old new t) e tries

-- a line without an end was answered, if it has a byte
pub unended_told : (begun : List ℕ) (old new : Taken) → 0 < length begun → Tries old new (order_text (Err obey.Unended)) → TellsAnswers old (last_answer begun) new
unended_told [] old new some tries = absurd (omega (arith, some))
unended_told (b ∷ begun) old new some tries = (new, tries, refl)

pub none_told : (begun : List ℕ) (old : Taken) → length begun ≡ 0 → TellsAnswers old (last_answer begun) old
none_told [] old none = refl
none_told (b ∷ begun) old none = absurd (omega (arith, none))

-- an order that asks for lines is answered by them, or there was no memory for them
pub lists_told : {T E : Type 0} (order : Order) (lines : List ℕ) (old new : Taken) (bytes : T → List ℕ) (made : Result T E) → stops (Ok order) ≡ false
    → IfOk made (λ t. bytes t ≡ lines)
    → MatchResult made (λ t. Tries old new (bytes t ++ codes "DONE\n")) (λ _. Tries old new (codes "FAULT MEMORY\n"))
    → (said : Said) × Lists order lines said × Tries old new (answer_text said) × (false ≡ is_stop said)
lists_told order lines old new bytes (Ok t) goes is tries =
    (saying lines (Ok order), inl refl, tells (ap (λ (l : List ℕ). l ++ codes "DONE\n") is) tries, sym goes)
lists_told order lines old new bytes (Err e) goes is tries = (saying [] (Err obey.Memory), inr refl, tries, refl)

-- a change of the users is answered by how it ended
pub change_told : {S U : Type 0} (ways : Ways S) (old new : Office S) (line : List ℕ) (command : Command) (sink sink' : Taken) (end : Result U ObeyFault)
    → ReadsOrder line (Ok (orders.Change command))
    → MatchResult end (λ _. Changes ways.does old command (Ok (orders.Change command)) new) (λ fault. Changes ways.does old command (Err fault) new)
    → MatchResult end (λ _. Tries sink sink' (codes "DONE\n")) (λ fault. Tries sink sink' (order_text (Err fault)))
    → (said : Said) × AnswersOrder ways old line said new × Tries sink sink' (answer_text said) × (false ≡ is_stop said)
change_told ways old new line command sink sink' (Ok u) read ended tries =
    (saying [] (Ok (orders.Change command)), (Ok (orders.Change command), read, (ended, refl)), tries, refl)
change_told ways old new line command sink sink' (Err fault) read ended tries =
    (saying [] (Err fault), (Ok (orders.Change command), read, (ended, refl)), tries, refl)

-- an order for the server alone
pub serves_read : {S : Type 0} (ways : Ways S) (old : Office S) (order : Order) (said : Said) (new : S) → ((command : Command) → order ≢ orders.Change command)
    → ((all : Bool) → order ≢ orders.Reload all) → order ≢ orders.Fixed fixed.Users → order ≢ orders.Fixed fixed.Help → Performs ways.does old.service order said.lines said.ends new
    → AnswersRead ways old (Ok order) said (office old.register old.latest new)
serves_read ways old (orders.Change command) said new change reload users help served = absurd (change command refl)
serves_read ways old (orders.Reload all) said new change reload users help served = absurd (reload all refl)
serves_read ways old (orders.Fixed fixed.Users) said new change reload users help served = absurd (users refl)
serves_read ways old (orders.Fixed fixed.Help) said new change reload users help served = absurd (help refl)
serves_read ways old _ said new change reload users help served = (served, (refl, refl))

pub serves_following : {S : Type 0} (does : Does S) (old : S) (order : Order) (said : Said) (new : S) → order ≢ orders.Fixed fixed.Help → Performs does old order said.lines said.ends new
    → AnswersReadFollowing does old (Ok order) said new
serves_following does old (orders.Fixed fixed.Help) said new help served = absurd (help refl)
serves_following does old _ said new help served = served

-- another order than STOP does not stop the server
pub not_stop : (order : Order) → order ≢ orders.Fixed fixed.Stop → stops (Ok order) ≡ false
not_stop (orders.Fixed fixed.Stop) other = absurd (other refl)
not_stop _ other = refl
