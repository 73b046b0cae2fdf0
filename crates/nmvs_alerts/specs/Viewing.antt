-- Who sees which alert (Articles 38 and 39).
use Rattle.std.specs.Prelude.{Bool, true, false, ◌&&◌, List, Option, Some, None}
use Rattle.nmvs_identifier.specs.Name.{Name}
use Rattle.nmvs_identifier.specs.Texts.{same_text}
use Rattle.nmvs_rules.specs.declared.actor.Actor.{Actor}
use Rattle.nmvs_rules.specs.declared.entry.Entry.{Entry}
use Rattle.nmvs_rules.specs.declared.put.Put.{Put}
use Rattle.nmvs_rules.specs.declared.role.Role.{Role}
use Rattle.nmvs_rules.specs.declared.role.Role.TheVariants.{Holder, Manufacturer, Wholesaler, Pharmacy, Authority}
use Rattle.nmvs_rules.specs.Questions.{code_of}
use Rattle.nmvs_rules.specs.Trail.{holder_of}
use Rattle.nmvs_cases.specs.declared.act.Reader.{Reader}
use Rattle.nmvs_cases.specs.declared.act.Reader.TheVariants.{Owner}
use Rattle.nmvs_cases.specs.declared.author.Author.{Author}
use Rattle.nmvs_cases.specs.declared.author.Author.TheVariants.{Officer, User}
use Rattle.nmvs_cases.specs.Authors.{author_reader, author_user}

-- whether the authorisation holds the product code, if anybody does
abbrev pub is_holder : Name → Option Name → Bool
is_holder a None = false
is_holder a (Some h) = same_text a h

-- whether the question was asked at the premises
abbrev pub is_own : Actor → Put → Bool
is_own a q = same_text a.authorisation q.actor.authorisation && same_text a.premises q.actor.premises

abbrev pub sees_as : List Entry → Actor → Put → Role → Bool
sees_as t a q Authority = true
sees_as t a q Holder = is_holder a.authorisation (holder_of t (code_of q.question))
sees_as t a q Manufacturer = is_own a q
sees_as t a q Wholesaler = is_own a q
sees_as t a q Pharmacy = is_own a q

abbrev pub may_see_as : List Entry → Actor → Put → Bool
may_see_as t a q = sees_as t a q a.role

-- an officer and an authority see each alert, a holder those on its product codes, any other house its own
abbrev pub may_see : List Entry → Author → Put → Bool
may_see t (Officer u) q = true
may_see t (User u a) q = may_see_as t a q

abbrev pub houses_shown_to : Role → Bool
houses_shown_to Holder = false
houses_shown_to r = true

-- whether somebody sees who asked: not the holder of a product code (Article 38)
abbrev pub sees_houses : Author → Bool
sees_houses (Officer u) = true
sees_houses (User u a) = houses_shown_to a.role

-- whether somebody sees what an author did: owners see their own alone
abbrev pub own_or_all : Reader → Bool → Bool
own_or_all Owner own = own
own_or_all r own = true

abbrev pub sees_act : Author → Author → Bool
sees_act u by = own_or_all (author_reader u) (same_text (author_user by) (author_user u))
