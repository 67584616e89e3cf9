-- What a program does rests by itself in front of an entry alone.
use Rattle.std.proofs.Common.{ℕ, zero, suc, ℤ, List, [], ◌≡◌, subst, Option, Some, None}
use Rattle.lang_base.specs.declared.place.Place.{Place}
use Rattle.lang_typed.specs.declared.stmt.Forking.{Forking}
use Rattle.lang_typed.specs.Plain.{PlainProgram, TypedStmt, statement, TypedStmts}
use Rattle.lang_typed.specs.Plain.{TypedBranches}
use Rattle.lang_typed.specs.Plain.{StmtForm as stmt}
use Rattle.lang_meaning.specs.Values.{Value, Naming}
use Rattle.lang_meaning.specs.Actions.{Frame, Own, Rest, Read, Write, Look, New, Print, Enter, Exit, Answer}
use Rattle.lang_meaning.specs.Counts.{Brought, Back, Trap_of_branch}
use Rattle.lang_meaning.specs.Core.{Result, Goes_on, Returns, Prog, Ret, Traps, Act, Makes, Again, Split, on, next_of, and_then}
use Rattle.lang_meaning.specs.Expressions.{Deeper}
use Rattle.lang_meaning.specs.Statements.{joined, forks, of_stmt}
use Rattle.lang_meaning.specs.Asking.{meaning}
use Rattle.lang_meaning.proofs.Meant.{IsNoRest, Meant, stmts_meant}

abbrev pub IsEntry : {N M : Type 0} → Prog N M → Type 0
IsEntry (Ret r) = ⊥
IsEntry (Traps trap p) = ⊥
IsEntry (Act (Enter E) k) = Unit {0}
IsEntry (Act Rest k) = ⊥
IsEntry (Act (Read n i) k) = ⊥
IsEntry (Act (Write n i v) k) = ⊥
IsEntry (Act (Look n) k) = ⊥
IsEntry (Act (New t c) k) = ⊥
IsEntry (Act (Print bytes) k) = ⊥
IsEntry (Act Exit k) = ⊥
IsEntry (Makes k) = ⊥
IsEntry (Again t b f k) = ⊥
IsEntry (Split forking ts bs k) = ⊥

abbrev pub Enters : {N M : Type 0} → Own N M → (Answer N M → Prog N M) → Type 0
Enters {N} {M} Rest k = (x : Answer N M) → IsEntry (k x)
Enters (Enter E) k = Unit {0}
Enters (Read n i) k = Unit {0}
Enters (Write n i v) k = Unit {0}
Enters (Look n) k = Unit {0}
Enters (New t c) k = Unit {0}
Enters (Print bytes) k = Unit {0}
Enters Exit k = Unit {0}

-- the branches of a split do nothing in their parent
abbrev pub Steady : {N M : Type 0} → Prog N M → Type 0
Steady (Ret r) = Unit {0}
Steady (Traps trap p) = Unit {0}
Steady {N} {M} (Act o k) = Enters o k × ((x : Answer N M) → Steady (k x))
Steady {N} {M} (Makes k) = (m : M) → Steady (k m)
Steady {N} {M} (Again t b f k) = ((g : Frame N M) → Steady (t g)) × ((g : Frame N M) → Steady (b g)) × ((r : Result N M) → Steady (k r))
Steady {N} {M} (Split forking ts bs k) = (x : Brought N) → Steady (k x)

module _ {N M : Type 0} where
  entry_on : (p : Prog N M) (j : Result N M → Prog N M) → IsEntry p → IsEntry (on p j)
  entry_on (Ret r) j h = absurd h
  entry_on (Traps trap p) j h = absurd h
  entry_on (Act (Enter E) k) j h = tt
  entry_on (Act Rest k) j h = absurd h
  entry_on (Act (Read n i) k) j h = absurd h
  entry_on (Act (Write n i v) k) j h = absurd h
  entry_on (Act (Look n) k) j h = absurd h
  entry_on (Act (New t c) k) j h = absurd h
  entry_on (Act (Print bytes) k) j h = absurd h
  entry_on (Act Exit k) j h = absurd h
  entry_on (Makes k) j h = absurd h
  entry_on (Again t b f k) j h = absurd h
  entry_on (Split forking ts bs k) j h = absurd h

  enters_on : (o : Own N M) (k : Answer N M → Prog N M) (j : Result N M → Prog N M) → Enters o k → Enters o (λ x. on (k x) j)
  enters_on Rest k j h = λ x. entry_on (k x) j (h x)
  enters_on (Enter E) k j h = tt
  enters_on (Read n i) k j h = tt
  enters_on (Write n i v) k j h = tt
  enters_on (Look n) k j h = tt
  enters_on (New t c) k j h = tt
  enters_on (Print bytes) k j h = tt
  enters_on Exit k j h = tt

  steady_on : (p : Prog N M) (j : Result N M → Prog N M) → Steady p → ((r : Result N M) → Steady (j r)) → Steady (on p j)
  steady_on (Ret r) j s h = h r
  steady_on (Traps trap p) j s h = tt
  steady_on (Act o k) j s h = (enters_on o k j s.0, λ x. steady_on (k x) j (s.1 x) h)
  steady_on (Makes k) j s h = λ m. steady_on (k m) j (s m) h
  steady_on (Again t b f k) j s h = (s.0, s.1, λ r. steady_on (k r) j (s.2 r) h)
  steady_on (Split forking ts bs k) j s h = λ x. steady_on (k x) j (s x) h

  steady_then : (p : Prog N M) (j : Value N → Frame N M → Prog N M) → Steady p → ((v : Value N) (f : Frame N M) → Steady (j v f)) → Steady (and_then p j)
  steady_then p j s h = steady_on p (next_of j) s next
    where
      next : (r : Result N M) → Steady (next_of j r)
      next (Goes_on v f) = h v f
      next (Returns v) = tt

  abbrev pub SteadyDeeper : Option (Deeper N M) → Type 0
  SteadyDeeper None = Unit {0}
  SteadyDeeper (Some dp) = (ss : TypedStmts) (f : Frame N M) → Steady (dp ss f)

  rests_before : (o : Own N M) (k : Answer N M → Prog N M) → IsNoRest o → Enters o k
  rests_before Rest k h = absurd h
  rests_before o k h = tt

  steady_joined : (slots : List ℕ) (f : Frame N M) (x : Brought N) → Steady (joined slots f x)
  steady_joined slots f (Back ls) = tt
  steady_joined slots f (Trap_of_branch trap place) = tt

  module _ (names : Naming N M) (P : PlainProgram) where
    steady_forks : (dp : Option (Deeper N M)) (at : Place) (forking : Forking) (takes : Option ℕ) (x : ℕ) (s : TypedStmt) (start count : ℤ) (f : Frame N M)
        → Steady (forks dp at forking takes x s start count f)
    steady_forks None at forking takes x s start count f = tt
    steady_forks (Some dp) at forking takes x s start count f = steady_joined [] f

    steady_cobegin : (dp : Option (Deeper N M)) (at : Place) (forking : Forking) (bs : TypedBranches) (f : Frame N M)
        → Steady (of_stmt names P dp (statement at (stmt.cobegin forking bs)) f)
    steady_cobegin None at forking bs f = tt
    steady_cobegin (Some dp) at forking bs f = steady_joined _ f

    steady_deeper : (dp : Option (Deeper N M)) → SteadyDeeper dp → (deeper : Deeper N M) → dp ≡ Some deeper → (ss : TypedStmts) (f : Frame N M) → Steady (deeper ss f)
    steady_deeper dp h deeper e = subst SteadyDeeper e h

    steady_meant : (dp : Option (Deeper N M)) → SteadyDeeper dp → Meant names P dp (λ f. Unit {0}) Steady
    steady_meant dp h = record {
      moves = λ f g e l. tt;
      goes_on = λ v f l. tt;
      returns = λ v. tt;
      traps = λ t at. tt;
      then' = λ p j s more. steady_then p j s (λ v f. more v f tt);
      act = λ o k no more. (rests_before o k no, more);
      enters = λ k more. (λ a. tt, λ a. (tt, more));
      makes = λ k more. more;
      again = λ t b f l test body. (λ g. test g tt, λ g. body g tt, λ r. tt);
      body = λ deeper e ss f g j l m more. steady_on (deeper ss g) j (steady_deeper dp h deeper e ss g) more;
      forks = λ at forking takes x s start count f l. steady_forks dp at forking takes x s start count f;
      cobegin = λ at forking bs f l. steady_cobegin dp at forking bs f;
    }

    pub steady_meaning : (d : ℕ) (ss : TypedStmts) (f : Frame N M) → Steady (meaning names P d ss f)
    unfolding meaning
    steady_meaning zero ss f = stmts_meant names P None (λ f. Unit {0}) Steady (steady_meant None tt) ss f tt
    steady_meaning (suc d) ss f =
        let deeper = Some (meaning names P d) in stmts_meant names P deeper (λ f. Unit {0}) Steady (steady_meant deeper (steady_meaning d)) ss f tt
