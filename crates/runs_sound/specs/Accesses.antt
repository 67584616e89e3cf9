-- Accesses of cells, and which of them an effect, the effects of a task and the entries of atomic blocks speak of.
use Rattle.std.specs.Prelude.{◌≡◌, ◌⊎◌, ◌≤◌, ℕ, ℤ, pos, Bool, true, false, ◌||◌, int_lt, List, [], ◌∷◌, ◌++◌}
use Rattle.std.specs.Int.{w32, int_wrapping_add}
use Rattle.lang_base.specs.declared.effect.Effect.{Effect as PathEffect}
use Rattle.lang_base.specs.declared.elems.Elem.{Elem}
use Rattle.lang_base.specs.declared.elems.Elem.TheVariants.{Local}
use Rattle.lang_base.specs.declared.region.Head.TheVariants.{Root}
use Rattle.lang_base.specs.declared.region.Rpl.{Rpl}
use Rattle.lang_base.specs.Effects.{is_write}
use Rattle.lang_base.specs.Matching.{Env, put_in}
use Rattle.lang_base.specs.Regions.{within}
use Rattle.lang_typed.specs.Effects.{Own, does, uses}
use Rattle.runs_theory.specs.Objects.{Path, Name, Made, Object, Region, Effect}
use Rattle.runs_sound.specs.Settings.{local_code, elems_of, Places, Setting, env_of}

-- an access of a cell of an object or an array, whether it stands inside an atomic block, and the region of the cell. Where it is of no
-- cell, it is what an effect with which a block is entered does to a whole region, which may have `*` and `[?]` in it
pub record Access : Type 0 where
  pub object : Name
  pub index : ℤ
  pub write : Bool
  pub guarded : Bool
  pub region : List Elem
  pub of_cell : Bool

-- the same, said of a place outside all blocks
abbrev pub unguarded : Access → Access
unguarded a = record a { guarded = false }

-- a region as a path
abbrev pub at_root : List Elem → Rpl
at_root r = record { head = Root; elems = r }

-- the region lies in a path
abbrev pub Includes : Env → Rpl → List Elem → Type 0
Includes env a r = within (at_root r) (put_in env a) ≡ true

-- an effect speaks of it: its path includes the region, a read speaks of no write, and a marked effect of what stands inside a
-- block alone
pub record Speaks (g : Setting) (e : PathEffect) (a : Access) : Type 0 where
  pub includes : Includes (env_of g) e.rpl a.region
  pub writes : a.write ≡ true → is_write e.access ≡ true
  pub guarded : e.atomic ≡ true → a.guarded ≡ true

-- of an element of the part
pub record Through (p : Places) (a : Access) : Type 0 where
  pub array : p.array ≡ Object a.object
  pub index : ℤ
  pub from_first : int_lt index (pos 0) ≡ false
  pub below_last : int_lt index p.len ≡ true
  pub place : a.index ≡ int_wrapping_add w32 p.first index

-- an effect through a part speaks of cells of the part alone
abbrev pub Covers : Setting → Own → Access → Type 0
Covers g (does e) a = Speaks g e a
Covers g (uses k e) a = Speaks g e a × (a.of_cell ≡ true → Through (g.part k) a)

-- some of these effects does
abbrev pub LiesIn : Setting → List Own → Access → Type 0
LiesIn g [] a = ⊥
LiesIn g (o ∷ E) a = Covers g o a ⊎ LiesIn g E a

-- the region begins with a local region that this task or one below it has made
pub record InOwnRegion (p : Path) (r : List Elem) : Type 0 where
  pub below : Path
  pub count : ℕ
  pub rest : List Elem
  pub is : r ≡ Local (local_code (Made (below ++ p) count)).0 (local_code (Made (below ++ p) count)).1 ∷ rest

-- the region of an effect with which a block is entered, as a path of its own
abbrev pub as_path : Region → Rpl
as_path r = at_root (elems_of r)

-- some effect with which a block was entered speaks of the access
abbrev pub LiesInEntry : List Effect → Access → Type 0
LiesInEntry [] a = ⊥
LiesInEntry (e ∷ E) a = ((within (at_root a.region) (as_path e.region) ≡ true) × (a.write ≡ true → is_write e.access ≡ true)) ⊎ LiesInEntry E a

-- what a task keeps to: its name, what it may do, in the setting in which it began, whether it began inside a block, and the members
-- that it may enter there, since they never reach an nd construct
pub record Bounds : Type 0 where
  pub path : Path
  pub setting : Setting
  pub effects : List Own
  pub inside : Bool
  pub member_nd_free : ℕ → Bool

-- an entry of a block by a task: the effects, and how many local regions the task had made
pub record Entry : Type 0 where
  pub effects : List Effect
  pub made : ℕ

abbrev pub is_entered : List Entry → Bool
is_entered [] = false
is_entered (E ∷ Es) = true

-- where it stands inside blocks with these entries
abbrev pub is_guarded : Bounds → List Entry → Bool
is_guarded b entries = b.inside || is_entered entries

-- the region begins with a local region that this task has made after so many others
pub record InLaterRegion (p : Path) (others : ℕ) (r : List Elem) : Type 0 where
  pub count : ℕ
  pub later : others ≤ count
  pub rest : List Elem
  pub is : r ≡ Local (local_code (Made p count)).0 (local_code (Made p count)).1 ∷ rest

abbrev pub InEachEntry : Path → List Entry → Access → Type 0
InEachEntry p [] a = Unit {0}
InEachEntry p (E ∷ Es) a = (LiesInEntry E.effects a ⊎ InLaterRegion p E.made a.region) × InEachEntry p Es a

-- the access lies in the task's effects, or in a local region of its own; and in those of each block that it stands inside, or in a local region that
-- the task has made inside it
pub record Allowed (b : Bounds) (entries : List Entry) (a : Access) : Type 0 where
  pub effects : LiesIn b.setting b.effects a ⊎ InOwnRegion b.path a.region
  pub blocks : InEachEntry b.path entries a

-- what these effects speak of, in this setting, is allowed, also inside further blocks
abbrev pub Within : Bounds → List Entry → Setting → List Own → Type 0
Within b entries g E = (a : Access) → (is_guarded b entries ≡ true → a.guarded ≡ true) → LiesIn g E a → Allowed b entries a

-- what an effect with which a block is entered does to its region
abbrev pub entered : Effect → Access
entered e = record { object = record { maker = []; count = 0 }; index = pos 0; write = is_write e.access; guarded = true; region = elems_of e.region; of_cell = false }

-- a block may be entered so: each effect is allowed
abbrev pub MayEnterWith : Bounds → List Entry → List Effect → Type 0
MayEnterWith b entries [] = Unit {0}
MayEnterWith b entries (e ∷ E) = Allowed b entries (entered e) × MayEnterWith b entries E
