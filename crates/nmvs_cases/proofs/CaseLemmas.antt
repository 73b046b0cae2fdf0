-- No alert leaves the list of work by itself.
use Rattle.std.proofs.Common.{◌≡◌, ◌⊎◌, inl, inr, ◌||◌, Bool, true, false, not, cond, List, [], ◌∷◌, Option, Some, None, refl, subst}
use Rattle.std.specs.Prelude.{IfSome}
use Rattle.std.specs.List.{list_any}
use Rattle.std.specs.Option.{option_and_then}
use Rattle.nmvs_identifier.specs.Name.{Name}
use Rattle.nmvs_identifier.specs.Texts.{same_text}
use Rattle.nmvs_cases.specs.declared.act.Act.{Act}
use Rattle.nmvs_cases.specs.declared.act.Act.TheVariants.{Take, Leave, Note, Close, Confirm, Inform, Reopen}
use Rattle.nmvs_cases.specs.declared.act.Reader.{Reader}
use Rattle.nmvs_cases.specs.declared.act.Reader.TheVariants.{Officer, Authority, Owner}
use Rattle.nmvs_cases.specs.declared.act.Verdict.{Verdict}
use Rattle.nmvs_cases.specs.declared.act.Whom.{Whom}
use Rattle.nmvs_cases.specs.declared.case.Case.{Case}
use Rattle.nmvs_cases.specs.declared.case.Case.TheVariants.{Open, Taken, Closed, Confirmed}
use Rattle.nmvs_cases.specs.declared.case.Informed.{Informed}
use Rattle.nmvs_cases.specs.Cases.{after, are_all, closed, confirmed, informed, is_listed, left, reopened, taken, taken_by}
use Rattle.nmvs_cases.specs.Laws.{Done, NoneIsForgotten, case_after, closes, confirms}

-- what the acts have for a case
abbrev Shown : List Done → Case → Type 0
Shown ds (Closed v) = list_any closes ds ≡ true
Shown ds (Confirmed i) = list_any confirms ds ≡ true
Shown ds _ = Unit {0}

or-right : (a b : Bool) → b ≡ true → (a || b) ≡ true
or-right true b h = refl
or-right false b h = h

-- and still have after one more
kept : (d : Done) (ds : List Done) (s : Case) → Shown ds s → Shown (d ∷ ds) s
kept d ds Open h = tt
kept d ds (Taken by) h = tt
kept d ds (Closed v) h = or-right (closes d) (list_any closes ds) h
kept d ds (Confirmed i) h = or-right (confirms d) (list_any confirms ds) h

-- a case by itself that no act has to show
abbrev Free : List Done → Option Case → Type 0
Free ds o = IfSome o (λ s. Shown ds s)

by-taken : (ds : List Done) (r : Reader) (u : Name) → Free ds (taken_by r u)
by-taken ds Officer u = tt
by-taken ds Authority u = tt
by-taken ds Owner u = tt

after-take : (ds : List Done) (s : Case) (r : Reader) (u : Name) → Free ds (taken s r u)
after-take ds Open r u = by-taken ds r u
after-take ds (Taken by) r u = on (same_text by u)
  where
    on : (b : Bool) → Free ds (cond b None (taken_by r u))
    on true = tt
    on false = by-taken ds r u
after-take ds (Closed v) r u = tt
after-take ds (Confirmed i) r u = tt

after-leave : (ds : List Done) (s : Case) (r : Reader) (u : Name) → Free ds (left s r u)
after-leave ds (Taken by) Authority u = tt
after-leave ds (Taken by) Owner u = tt
after-leave ds (Taken by) Officer u = on (same_text by u)
  where
    on : (b : Bool) → Free ds (cond b (Some Open) None)
    on true = tt
    on false = tt
after-leave ds Open r u = tt
after-leave ds (Closed v) r u = tt
after-leave ds (Confirmed i) r u = tt

after-close : (ds : List Done) (s : Case) (v : Verdict) (r : Reader) (u : Name) → Free (record { act = Close v; reader = r; user = u } ∷ ds) (closed s v r)
after-close ds Open v Officer u = refl
after-close ds Open v Authority u = refl
after-close ds Open v Owner u = tt
after-close ds (Taken by) v Officer u = refl
after-close ds (Taken by) v Authority u = refl
after-close ds (Taken by) v Owner u = tt
after-close ds (Closed w) v r u = tt
after-close ds (Confirmed i) v r u = tt

after-confirm : (ds : List Done) (s : Case) (r : Reader) (u : Name) → Free (record { act = Confirm; reader = r; user = u } ∷ ds) (confirmed s r)
after-confirm ds (Confirmed i) r u = tt
after-confirm ds Open Officer u = tt
after-confirm ds Open Authority u = refl
after-confirm ds Open Owner u = tt
after-confirm ds (Taken by) Officer u = tt
after-confirm ds (Taken by) Authority u = refl
after-confirm ds (Taken by) Owner u = tt
after-confirm ds (Closed v) Officer u = tt
after-confirm ds (Closed v) Authority u = refl
after-confirm ds (Closed v) Owner u = tt

after-inform : (ds : List Done) (s : Case) (w : Whom) (r : Reader) (u : Name) → Shown ds s → Free (record { act = Inform w; reader = r; user = u } ∷ ds) (informed s w r)
after-inform ds (Confirmed i) w Owner u h = tt
after-inform ds (Confirmed i) w Officer u h = h
after-inform ds (Confirmed i) w Authority u h = h
after-inform ds Open w r u h = tt
after-inform ds (Taken by) w r u h = tt
after-inform ds (Closed v) w r u h = tt

after-reopen : (ds : List Done) (s : Case) (r : Reader) → Free ds (reopened s r)
after-reopen ds (Closed v) Officer = tt
after-reopen ds (Closed v) Authority = tt
after-reopen ds (Closed v) Owner = tt
after-reopen ds (Confirmed i) Authority = tt
after-reopen ds (Confirmed i) Officer = tt
after-reopen ds (Confirmed i) Owner = tt
after-reopen ds Open r = tt
after-reopen ds (Taken by) r = tt

after-act : (ds : List Done) (s : Case) (act : Act) (r : Reader) (u : Name) → Shown ds s → Free (record { act = act; reader = r; user = u } ∷ ds) (after s act r u)
after-act ds s Take r u h = after-take (record { act = Take; reader = r; user = u } ∷ ds) s r u
after-act ds s Leave r u h = after-leave (record { act = Leave; reader = r; user = u } ∷ ds) s r u
after-act ds s Note r u h = kept (record { act = Note; reader = r; user = u }) ds s h
after-act ds s (Close v) r u h = after-close ds s v r u
after-act ds s Confirm r u h = after-confirm ds s r u
after-act ds s (Inform w) r u h = after-inform ds s w r u h
after-act ds s Reopen r u h = after-reopen (record { act = Reopen; reader = r; user = u } ∷ ds) s r

shown : (ds : List Done) → Free ds (case_after ds)
shown [] = tt
shown (d ∷ ds) = by (case_after ds) (shown ds)
  where
    by : (o : Option Case) → Free ds o → Free (d ∷ ds) (option_and_then (λ s. after s d.act d.reader d.user) o)
    by None h = tt
    by (Some s) h = after-act ds s d.act d.reader d.user h

not-false : (b : Bool) → not b ≡ false → b ≡ true
not-false true h = refl
not-false false h = absurd (cc h)

unlisted : (ds : List Done) (s : Case) → Shown ds s → is_listed s ≡ false
    → (list_any closes ds ≡ true) ⊎ ((list_any confirms ds ≡ true) × ((i : Informed) × (s ≡ Confirmed i) × (are_all i ≡ true)))
unlisted ds Open h e = absurd (cc e)
unlisted ds (Taken by) h e = absurd (cc e)
unlisted ds (Closed v) h e = inl h
unlisted ds (Confirmed i) h e = inr (h, (i, refl, not-false (are_all i) e))

pub none-forgotten : NoneIsForgotten
none-forgotten ds s is e = unlisted ds s (subst (λ (o : Option Case). Free ds o) is (shown ds)) e
