-- What a branch does where it is forked is what its task is to do, and each frame knows how many calls deeper it may go.
use Rattle.std.specs.Prelude.{ℕ, ◌≡◌, Some, slice_get}
use Rattle.lang_typed.specs.Plain.{PlainProgram}
use Rattle.lang_meaning.specs.Values.{Naming}
use Rattle.lang_meaning.specs.Actions.{Frame, Task, Answer}
use Rattle.lang_meaning.specs.Asking.{does}
use Rattle.lang_meaning.specs.Core.{Result, Goes_on, Returns, Prog, Ret, Traps, Act, Makes, Again, Split}
use Rattle.lang_meaning.specs.Counts.{Brought}

-- it goes on in a frame that may go so many calls deeper
abbrev pub GoesOnAt : {N M : Type 0} → ℕ → Result N M → Type 0
GoesOnAt n (Goes_on v f) = f.left ≡ n
GoesOnAt n (Returns v) = Unit {0}

-- and so do all its parts, and each branch does what its task is to do
abbrev pub Coherent : {N M : Type 0} → Naming N M → PlainProgram → Prog N M → ℕ → Type 0
Coherent names P (Ret r) n = GoesOnAt n r
Coherent names P (Traps trap p) n = Unit {0}
Coherent {N} {M} names P (Act o k) n = (x : Answer N M) → Coherent names P (k x) n
Coherent {N} {M} names P (Makes k) n = (m : M) → Coherent names P (k m) n
Coherent {N} {M} names P (Again t b f k) n =
    ((g : Frame N M) → g.left ≡ f.left → Coherent names P (t g) f.left)
    × ((g : Frame N M) → g.left ≡ f.left → Coherent names P (b g) f.left)
    × ((r : Result N M) → GoesOnAt f.left r → Coherent names P (k r) n)
Coherent {N} {M} names P (Split forking ts bs k) n =
    ((i : ℕ) (t : Task N M) → slice_get ts i ≡ Some t → bs i ≡ does names P t) × ((x : Brought N) → Coherent names P (k x) n)

-- each task of each program
abbrev pub IsCoherent : Type 0 → Type 0 → Type 0
IsCoherent N M = (names : Naming N M) (P : PlainProgram) (t : Task N M) → Coherent names P (does names P t) t.frame.left
