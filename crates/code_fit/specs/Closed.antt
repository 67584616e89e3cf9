-- When a code is closed, beside that it is fit: how its bodies are left, and that its classes and `main` name bodies of members.
use Rattle.std.specs.Prelude.{◌≡◌, ◌<◌, ◌≤◌, ℕ, suc, Bool, true, false, List, All, length, Some, slice_get}
use Rattle.lang_base.specs.declared.region.Rpl.{Rpl}
use Rattle.lang_base.specs.declared.value.FirstValue.{FirstValue}
use Rattle.lang_typed.specs.declared.stmt.Forking.{Forking}
use Rattle.lang_typed.specs.Plain.{PlainParent}
use Rattle.code_instrs.specs.declared.instr.Instr.{Instr}
use Rattle.code_instrs.specs.declared.instr.Instr.TheVariants as i
use Rattle.code_instrs.specs.Plain.{Line, PlainBody, Method, ClassCode, fork_site, spread_site, call_site, new_site, array_site, PlainCode, body_at, class_at, parent_of, method_at, constructor_of, fields_of}
use Rattle.code_instrs.specs.Fit.{Mark, is_branch, MemberBody, CodeFit}
use Rattle.code_fit.specs.Room.{AllFull, IsFull}

-- the second class is the first or stands above it
pub data IsAbove (C : PlainCode) : ℕ → ℕ → Type 0 where
  itself : {c : ℕ} → IsAbove C c c
  through_parent : {c d : ℕ} {p : PlainParent} → parent_of C c ≡ Some p → IsAbove C p.class d → IsAbove C c d

abbrev pub NoJoin : PlainBody → ℕ → Type 0
NoJoin b q = (l : Line) → slice_get b.lines q ≡ Some l → l.instr ≡ i.Join → ⊥

-- what an instruction of a body keeps to, at its place with this mark: bodies are left with no open entry, those of members by a return or
-- leave, those of branches by an end; regions of calls and creations are fully specified, classes are there, and each body that may be entered
-- has more slots than it gets arguments; a join stands after each fork and spread, whose copies and numbers have slots, and no jump leads
-- to it; a region names variables by slots of the body, and that of an array alone its own index
module _ (C : PlainCode) (b : PlainBody) (p : ℕ) (m : Mark) where
  abbrev pub Left : Bool → Type 0
  Left branch = (is_branch b.title ≡ branch) × (m.open_entries ≡ 0)

  abbrev pub Joined : Type 0
  Joined = (l : Line) × (slice_get b.lines (suc p) ≡ Some l) × (l.instr ≡ i.Join)

  abbrev pub Keeps : Instr → Type 0
  Keeps (i.Jump q) = NoJoin b q
  Keeps (i.Unless q) = NoJoin b q
  Keeps i.Return = Left false
  Keeps i.Leave = Left false
  Keeps i.End = Left true
  Keeps (i.Call s) =
      (c r n : ℕ) × (regions : List Rpl) × (slice_get C.sites s ≡ Some (call_site c r n regions)) × AllFull b.slots regions ×
      ((d : ℕ) (x : Method) → IsAbove C d c → method_at C d r ≡ Some x → n < (body_at C x.body).slots)
  Keeps (i.New s) =
      (c n : ℕ) × (regions : List Rpl) × (slice_get C.sites s ≡ Some (new_site c n regions)) × ((k : ClassCode) × (class_at C c ≡ Some k)) ×
      AllFull b.slots regions × ((j : ℕ) → constructor_of C c ≡ Some j → n < (body_at C j).slots)
  Keeps (i.Array s) = (a : Rpl) × (first : FirstValue) × (slice_get C.sites s ≡ Some (array_site a first)) × IsFull b.slots 1 a
  Keeps (i.Fork s) =
      (forking : Forking) × (bodies : List ℕ) × (copies : List (List ℕ)) × (slice_get C.sites s ≡ Some (fork_site forking bodies copies)) ×
      All (λ xs. All (λ x. x < b.slots) xs) copies × Joined
  Keeps (i.Spread s) = (forking : Forking) × (body x : ℕ) × (slice_get C.sites s ≡ Some (spread_site forking body x)) × (x < b.slots) × Joined
  Keeps x = Unit {0}

-- a class extends one before it in some order, by regions that are fully specified and name no variable, and has at least its fields
pub record ExtendsCode (C : PlainCode) (order : ℕ → ℕ) (c : ℕ) (p : PlainParent) : Type 0 where
  pub before : order p.class < order c
  pub above : ClassCode
  pub is : class_at C p.class ≡ Some above
  pub full : AllFull 0 p.args
  pub fields : length above.fields ≤ length (fields_of (class_at C c))

-- a row is the body of a member of that class or one above it
pub record RowOf (C : PlainCode) (gives : ℕ → Bool) (c : ℕ) (m : Method) : Type 0 where
  pub owner : IsAbove C c m.owner
  pub kind : Bool
  pub body : MemberBody C gives m.body kind

pub record CodeClosed (C : PlainCode) : Type 0 where
  pub fit : CodeFit C
  pub keeps : (j p : ℕ) (m : Mark) (l : Line) → fit.marks j p ≡ Some m → slice_get (body_at C j).lines p ≡ Some l → Keeps C (body_at C j) p m l.instr
  -- `main` gives a value, and has slots for its object and its argument
  pub main : MemberBody C fit.gives C.main_body true
  pub main_room : 1 < (body_at C C.main_body).slots
  pub rows : (c r : ℕ) (m : Method) → method_at C c r ≡ Some m → RowOf C fit.gives c m
  pub order : ℕ → ℕ
  pub parents : (c : ℕ) (p : PlainParent) → parent_of C c ≡ Some p → ExtendsCode C order c p
