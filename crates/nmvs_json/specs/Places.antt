-- The places of the program's tables, as specs have them (own).
use Rattle.nmvs_json.specs.declared.reply.Place.TheVariants as places
use Rattle.nmvs_json.specs.declared.reply.Place.{Place}
use Rattle.nmvs_json.specs.Replies as specs

-- a place
abbrev pub place_of : Place → specs.Place
place_of (places.String name) = specs.string name.now
place_of (places.Number name) = specs.number name.now
place_of places.Label = specs.label
