-- What is kept in rings stands for the refs.
use Rattle.ref_history.specs.Versioned.{Ref}
use Rattle.ref_history.specs.Rung.{StandsIn, HasRoomIn}
use Rattle.ref_history.specs.declared.ref_id.RefId.{RefId}
use Rattle.ref_history.specs.declared.ring_history.RingHistory.{RingHistory}

abbrev pub RingStands : RingHistory → RefId → Ref → Type 0
RingStands h = StandsIn h.rings h.refs.items

abbrev pub RingHasRoom : RingHistory → RefId → Type 0
RingHasRoom h = HasRoomIn h.rings h.refs.items
