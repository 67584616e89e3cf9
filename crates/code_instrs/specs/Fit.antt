-- When a code is fit: its instructions fit each other in each body, and its bodies fit each other.
use Rattle.std.specs.Prelude.{◌≡◌, ◌<◌, ◌≤◌, ℕ, suc, ◌+◌, Bool, true, false, List, [], ◌∷◌, length, Option, Some, None, slice_get}
use Rattle.lang_base.specs.declared.effect.Effect.{Effect}
use Rattle.lang_base.specs.declared.region.Rpl.{Rpl}
use Rattle.lang_base.specs.declared.value.FirstValue.{FirstValue}
use Rattle.lang_typed.specs.declared.stmt.Forking.{Forking}
use Rattle.lang_typed.specs.Plain.{PlainParent}
use Rattle.code_instrs.specs.declared.instr.Instr.{Instr}
use Rattle.code_instrs.specs.declared.instr.Instr.TheVariants as i
use Rattle.code_instrs.specs.Plain.{Line, Title, of_member, of_branch, PlainBody, Method, Site, fork_site, spread_site, block_site, call_site, new_site, array_site, PlainCode, body_at, parent_of, method_at, constructor_of}
use Rattle.code_instrs.specs.Machine.{site_of, line_before}

-- at a place that a path reaches: the height of the stack, how many entries are open, and a rank that falls along each step
-- that isn't out of a `turn`
pub record Mark : Type 0 where
  pub height : ℕ
  pub open_entries : ℕ
  pub rank : ℕ

-- a path to q, which takes and puts so many values, and opens and closes so many entries
pub record Path_to (marks : ℕ → Option Mark) (m : Mark) (q takes puts opens closes : ℕ) : Type 0 where
  pub there : Mark
  pub is_there : marks q ≡ Some there
  pub high : takes ≤ m.height
  pub height : there.height + takes ≡ m.height + puts
  pub open_too : closes ≤ m.open_entries
  pub entries : there.open_entries + closes ≡ m.open_entries + opens

pub record Falls_to (marks : ℕ → Option Mark) (m : Mark) (q takes puts opens closes : ℕ) : Type 0 where
  pub path : Path_to marks m q takes puts opens closes
  pub falls : path.there.rank < m.rank

abbrev pub is_branch : Title → Bool
is_branch of_member = false
is_branch (of_branch s b) = true

abbrev pub puts_of : Bool → ℕ
puts_of true = 1
puts_of false = 0

-- a body of a member, which gives a value or none
pub record MemberBody (C : PlainCode) (gives : ℕ → Bool) (j : ℕ) (y : Bool) : Type 0 where
  pub is_there : j < length C.bodies
  pub kind : gives j ≡ y
  pub member : is_branch (body_at C j).title ≡ false

-- the row of a class is the body of a member that gives a value or none
pub record RowIs (C : PlainCode) (gives : ℕ → Bool) (c r : ℕ) (y : Bool) : Type 0 where
  pub method : Method
  pub row : method_at C c r ≡ Some method
  pub body : MemberBody C gives method.body y

-- a body of a branch of a body with so many slots and local regions
pub record BranchBody (C : PlainCode) (b : PlainBody) (j : ℕ) : Type 0 where
  pub is_there : j < length C.bodies
  pub branch : is_branch (body_at C j).title ≡ true
  pub slots : (body_at C j).slots ≡ b.slots
  pub local_regions : (body_at C j).local_regions ≡ b.local_regions

abbrev pub AllBranches : PlainCode → PlainBody → List ℕ → Type 0
AllBranches C b [] = Unit {0}
AllBranches C b (j ∷ js) = BranchBody C b j × AllBranches C b js

-- a join takes what its fork or spread has left
abbrev pub left_by : Option Site → Option ℕ
left_by (Some (fork_site forking js copies)) = Some 1
left_by (Some (spread_site forking j x)) = Some 3
left_by s = None

abbrev pub site_at : PlainCode → Option ℕ → Option Site
site_at C None = None
site_at C (Some s) = slice_get C.sites s

-- an instruction of body j fits at its place, which has this mark
module _ (C : PlainCode) (marks : ℕ → ℕ → Option Mark) (gives : ℕ → Bool) (j p : ℕ) (m : Mark) where
  abbrev pub straight : ℕ → ℕ → Type 0
  straight takes puts = Falls_to (marks j) m (suc p) takes puts 0 0

  abbrev pub Local : Instr → Type 0
  Local (i.Int k) = straight 0 1
  Local (i.Bool b) = straight 0 1
  Local i.Null = straight 0 1
  Local (i.Load k) = (k < (body_at C j).slots) × straight 0 1
  Local (i.Store k) = (k < (body_at C j).slots) × straight 1 0
  Local i.Pop = straight 1 0
  Local (i.Unary o) = straight 1 1
  Local (i.Binary o) = straight 2 1
  Local (i.Jump l) = Falls_to (marks j) m l 0 0 0 0
  Local (i.Unless l) = Falls_to (marks j) m l 1 0 0 0 × straight 1 0
  Local i.Turn = Path_to (marks j) m (suc p) 0 0 0 0
  Local (i.Get k) = straight 1 1
  Local (i.Put k) = straight 2 0
  Local i.Elem = straight 2 1
  Local i.PutElem = straight 3 0
  Local i.Length = straight 1 1
  Local (i.Call s) =
      (c r n : ℕ) × (regions : List Rpl) × (y : Bool) × (slice_get C.sites s ≡ Some (call_site c r n regions)) × RowIs C gives c r y × straight (suc n)
      (puts_of y)
  Local (i.New s) = (c n : ℕ) × (regions : List Rpl) × (slice_get C.sites s ≡ Some (new_site c n regions)) × straight n 1
  Local (i.Array s) = (a : Rpl) × (first : FirstValue) × (slice_get C.sites s ≡ Some (array_site a first)) × straight 1 1
  Local i.Return = (1 ≤ m.height) × (gives j ≡ true)
  Local i.Leave = gives j ≡ false
  Local i.Print = straight 1 0
  Local (i.Text t) = (t < length C.texts) × straight 0 0
  Local (i.Fork s) =
      (forking : Forking) × (js : List ℕ) × (copies : List (List ℕ)) × (slice_get C.sites s ≡ Some (fork_site forking js copies)) ×
      (length copies ≡ length js) × AllBranches C (body_at C j) js × straight 0 1
  Local (i.Spread s) = (forking : Forking) × (b x : ℕ) × (slice_get C.sites s ≡ Some (spread_site forking b x)) × BranchBody C (body_at C j) b × straight 2 3
  Local i.Join = (n : ℕ) × (left_by (site_at C (site_of (line_before (body_at C j).lines p))) ≡ Some n) × straight n 0
  Local (i.Enter s) = (effects : List Effect) × (slice_get C.sites s ≡ Some (block_site effects)) × Falls_to (marks j) m (suc p) 0 0 1 0
  Local i.Exit = Falls_to (marks j) m (suc p) 0 0 0 1
  Local i.End = is_branch (body_at C j).title ≡ true
  Local (i.Region r) = (r < (body_at C j).local_regions) × straight 0 0
  Local (i.Part k) = (k + 4 < (body_at C j).slots) × straight 0 0
  Local (i.InPart k) = (k + 4 < (body_at C j).slots) × straight 1 2
  Local (i.InParts k) = (k + 4 < (body_at C j).slots) × straight 2 3

-- the marks of each body, and which bodies give a value
pub record CodeFit (C : PlainCode) : Type 0 where
  pub marks : ℕ → ℕ → Option Mark
  pub gives : ℕ → Bool
  -- a body begins with an empty stack and no open entry
  pub first : (j : ℕ) → j < length C.bodies → (m : Mark) × (marks j 0 ≡ Some m) × (m.height ≡ 0) × (m.open_entries ≡ 0)
  -- where a path leads stands an instruction, which fits
  pub line : (j p : ℕ) (m : Mark) → marks j p ≡ Some m → (l : Line) × (slice_get (body_at C j).lines p ≡ Some l) × Local C marks gives j p m l.instr
  -- the rows of a class below are of the same kind, and constructors give none
  pub rows : (c r : ℕ) (p : PlainParent) (y : Bool) → parent_of C c ≡ Some p → RowIs C gives p.class r y → RowIs C gives c r y
  pub constructors : (c j : ℕ) → constructor_of C c ≡ Some j → MemberBody C gives j false
