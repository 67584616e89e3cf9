-- A class with its region arguments, and the superclass of a class.
use Rattle.std.specs.Prelude.{ℕ, List, map}
use Rattle.lang_meaning.specs.Values.{Region}
use Rattle.lang_meaning.specs.Elision.{LocalRegion}
use Rattle.exec_frames.specs.Names.{Reading, In_order, LocalOf, region_by}
use Rattle.exec_frames.specs.declared.classes.Seen.{Seen}
use Rattle.exec_frames.specs.declared.classes.Superclass.{Superclass}
use Rattle.lang_typed.specs.Plain.{PlainParent}

abbrev pub seen_by : (k : Reading) → Seen → ℕ × List (Region (LocalOf k))
seen_by k s = (s.class, map (region_by k) s.regions)

abbrev pub plain_seen : Seen → ℕ × List (Region LocalRegion)
plain_seen = seen_by In_order

abbrev pub plain_superclass : Superclass → PlainParent
plain_superclass p = record { class = p.class; args = p.args.now }
