-- The orders to a server that follows another (own).
use Rattle.std.specs.Prelude.{◌≡◌, List, [], Result, Ok, Err}
use Rattle.nmvs_operator.specs.declared.figures.Figure.{Figure}
use Rattle.nmvs_operator.specs.declared.order.Fixed.TheVariants as fixed
use Rattle.nmvs_operator.specs.declared.order.Order.{Order}
use Rattle.nmvs_operator.specs.declared.order.Order.TheVariants as orders
use Rattle.nmvs_operator.specs.declared.service.ServiceFault.{ServiceFault}
use Rattle.nmvs_operator.specs.declared.service.ServiceFault.TheVariants.{Standby}

-- a server that follows takes over or ends, and carries out no other order
abbrev pub EndsFollowing : Order → Result (List Figure) ServiceFault → Type 0
EndsFollowing (orders.Fixed fixed.TakeOver) end = end ≡ Ok []
EndsFollowing (orders.Fixed fixed.Stop) end = end ≡ Ok []
EndsFollowing _ end = end ≡ Err Standby
