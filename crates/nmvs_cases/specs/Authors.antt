-- Who did an act (own).
use Rattle.std.specs.Prelude.{ℕ, Bool, ◌&&◌, List, codes}
use Rattle.nmvs_identifier.specs.Name.{Name, is_name}
use Rattle.nmvs_rules.specs.declared.role.Role.{Role}
use Rattle.nmvs_rules.specs.declared.role.Role.TheVariants as role
use Rattle.nmvs_rules.specs.Entries.{is_actor}
use Rattle.nmvs_words.specs.Words.{role_word}
use Rattle.nmvs_cases.specs.declared.act.Reader.{Reader}
use Rattle.nmvs_cases.specs.declared.act.Reader.TheVariants as reader
use Rattle.nmvs_cases.specs.declared.author.Author.{Author}
use Rattle.nmvs_cases.specs.declared.author.Author.TheVariants.{Officer, User}

-- as whom a user with this role reads and acts
abbrev pub reader_in : Role → Reader
reader_in role.Authority = reader.Authority
reader_in _ = reader.Owner

abbrev pub author_reader : Author → Reader
author_reader (Officer u) = reader.Officer
author_reader (User u actor) = reader_in actor.role

abbrev pub author_user : Author → Name
author_user (Officer u) = u
author_user (User u actor) = u

-- the texts of an author in a line: an officer has a word in place of a role, and no authorisation and premises
abbrev pub author_role : Author → List ℕ
author_role (Officer u) = codes "OFFICER"
author_role (User u actor) = role_word actor.role

abbrev pub author_authorisation : Author → List ℕ
author_authorisation (Officer u) = codes "-"
author_authorisation (User u actor) = actor.authorisation.bytes

abbrev pub author_premises : Author → List ℕ
author_premises (Officer u) = codes "-"
author_premises (User u actor) = actor.premises.bytes

-- whether the names are in their grammar
abbrev pub is_author : Author → Bool
is_author (Officer u) = is_name u.bytes
is_author (User u actor) = is_name u.bytes && is_actor actor
