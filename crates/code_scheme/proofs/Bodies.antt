-- Each body of the code, of a member or a branch, is some task's.
use Rattle.std.proofs.Common.{◌≡◌, ◌<◌, ◌≤◌, ◌⊎◌, inl, inr, ℕ, zero, suc, ◌+◌, Bool, false, List, [], ◌∷◌, ◌++◌, length, refl, subst, arith, Option, Some, slice_get, length-append}
use Rattle.lang_base.specs.declared.place.Place.{Place}
use Rattle.lang_typed.specs.Plain.{TypedStmt, statement, TypedStmts, no_stmts, more_stmts, TypedBranches, no_branches, more_branches, PlainMember, PlainProgram}
use Rattle.lang_typed.specs.Plain.{StmtForm as form}
use Rattle.lang_typed.proofs.Parts.{each_branch, Each}
use Rattle.lang_typed.proofs.Resolved.{each_fits, parts_fit}
use Rattle.lang_typed.specs.Resolved.{gives_value, StmtFits, StmtsFit, Resolved}
use Rattle.lang_typed.specs.Scope.{member_at}
use Rattle.lang_meaning.specs.Actions.{Frame, Work}
use Rattle.code_instrs.specs.Plain.{PlainCode, body_at}
use Rattle.code_instrs.specs.Machine.{copies_of}
use Rattle.code_scheme.specs.Pieces.{Branch, Piece, Next, past, beside}
use Rattle.code_scheme.specs.Scheme.{closes, stmts_piece, branches_of}
use Rattle.code_scheme.specs.Stands.{BodyIs}
use Rattle.code_scheme.specs.Compiled.{Compiled}
use Rattle.code_scheme.specs.Whole.{weight_all, place_of, branch_piece_of, branch_piece, closing, member_piece, generate, in_member, member_output, past_output, members_output, first, compiled}
use Rattle.code_scheme.specs.Laws.{work_of}
use Rattle.code_scheme.proofs.Branched.{AllAre, all_on, Branches, branches_none, branches_line, branches_both, branches_site, branches_text, branches_start}
use Rattle.code_scheme.proofs.Built.{Built, branch_built, member_built}
use Rattle.code_scheme.proofs.Pieces.{split, BranchStands}
use Rattle.code_scheme.proofs.Whole.{need, need_on, branch_needs, OutputAt, generated, first_output, bodies_at, member_needs, member_is, root_is}

module _ (P : PlainProgram) (y : Bool) where
  -- the statements of branches fit
  abbrev Fitting : Branch → Type 0
  Fitting b = StmtFits P y b.stmt

  abbrev Fits : Piece → Type 0
  Fits a = Branches Fitting a

  fit_branches : (s n : ℕ) (bs : TypedBranches) → Each (StmtFits P y) (each_branch bs) → AllAre Fitting (branches_of s n bs)
  fit_branches s n no_branches ok = tt
  fit_branches s n (more_branches copies t bs) ok = (ok.0, fit_branches s (suc n) bs ok.1)

  fits_built : Built (StmtFits P y) (λ p a q n. Fits a)
  fits_built = record {
    stop = λ p. branches_none;
    next = λ x at e h. branches_line x at h;
    both = λ h j. branches_both h j;
    sited = λ s e h. branches_site s _ h;
    texted = λ t h. branches_text t h;
    cobegin = λ k p at forking bs h. branches_start _ _ (fit_branches k.site 0 bs (parts_fit P y (statement at (form.cobegin forking bs)) h));
    foreach = λ k p at forking x start count s h. branches_start _ _ (parts_fit P y (statement at (form.foreach forking x start count s)) h);
    foreach_parts = λ k p at x source count s h. branches_start _ _ (parts_fit P y (statement at (form.foreach_parts x source count s)) h);
  }

  branch_fit : (k : Next) (at : Place) (s : TypedStmt) (takes : Option ℕ) → StmtFits P y s → Fits (branch_piece_of k at s takes)
  branch_fit = branch_built (StmtFits P y) (λ p a q n. Fits a) (parts_fit P y) fits_built

  member_fit : (k : Next) (ss : TypedStmts) (z : Bool) → StmtsFit P y ss → Fits (beside (stmts_piece k 0 ss) (closing z))
  member_fit k ss z ok = member_built (StmtFits P y) (λ p a q n. Fits a) (parts_fit P y) fits_built k ss z (each_fits P y ss ok)

-- a body is some work's
record Known (C : PlainCode) (P : PlainProgram) (j : ℕ) : Type 0 where
  work : Work
  gives : Bool
  body : BodyIs C (body_at C j) work
  fits : StmtsFit P gives work.stmts

branch_known : (C : PlainCode) (P : PlainProgram) (y : Bool) (j : ℕ) (b : Branch) → StmtFits P y b.stmt → BranchStands C j b → Known C P j
branch_known C P y j b ok s = record {
  work = record { is_root = false; takes = b.takes; copies = copies_of C (body_at C j).title; stmts = more_stmts b.stmt no_stmts };
  gives = y;
  body = record { begins = s.begins; stmts = (s.stmt, tt); ends = record { place = s.place; stands = s.ends; gives = refl } };
  fits = (ok, inr refl, tt);
}

queue_known : (C : PlainCode) (P : PlainProgram) (y : Bool) (n j : ℕ) (m : PlainMember) (k : Next) (todo : List Branch) → need todo ≤ n →
    j + length todo ≡ k.body → OutputAt C k j (generate n m k todo) → AllAre (Fitting P y) todo → (i : ℕ) → i < length (generate n m k todo).bodies → Known C P (j + i)
queue_known C P y zero j m k todo l e h f i lt = absurd (omega arith)
queue_known C P y (suc n) j m k [] l e h f i lt = absurd (omega arith)
queue_known C P y (suc n) j m k (b ∷ todo) l e h f zero lt =
    subst (λ z. Known C P z) (omega arith) (branch_known C P y j b f.0 (generated C (suc n) j m k (b ∷ todo) l e h).0)
queue_known C P y (suc n) j m k (b ∷ todo) l e h f (suc i) lt =
    let a = branch_piece k b in
    let rest = generate n m (past k a) (todo ++ a.branches) in
    let w = (branch_needs k (place_of b.stmt) b.stmt b.takes).is in
    let o = need_on todo a.branches in
    let c = length-append todo a.branches in
    let s = split C.sites a.sites rest.sites k.site h.sites in
    let t = split C.texts a.texts rest.texts k.text h.texts in
    let r = queue_known C P y n (suc j) m (past k a) (todo ++ a.branches) (omega arith) (omega arith) (record {
      bodies = h.bodies.1;
      sites = s.1;
      texts =
          t.1;
    }) (all_on (Fitting P y) todo a.branches f.1 (branch_fit P y k (place_of b.stmt) b.stmt b.takes f.0).is) i (omega arith) in
    subst (λ z. Known C P z) (omega arith) r

-- a place is before n, or so far after it
splits : (n m i : ℕ) → i < n + m → (i < n) ⊎ ((r : ℕ) × (i ≡ n + r) × (r < m))
splits zero m i l = inr (i, omega arith, omega arith)
splits (suc n) m zero l = inl (omega arith)
splits (suc n) m (suc i) l = go (splits n m i (omega arith))
  where
    go : (i < n) ⊎ ((r : ℕ) × (i ≡ n + r) × (r < m)) → (suc i < suc n) ⊎ ((r : ℕ) × (suc i ≡ suc n + r) × (r < m))
    go (inl h) = inl (omega arith)
    go (inr h) = inr (h.0, (let e = h.1 in omega arith), h.2)

module _ (P : PlainProgram) (resolved : Resolved P) where
  member_known : (k : Next) (m : PlainMember) (n : ℕ) → member_at P n ≡ Some m → OutputAt (compiled P) k k.body (member_output k m) → (i : ℕ) →
      i < length (member_output k m).bodies → Known (compiled P) P (k.body + i)
  member_known k m n e h zero l =
      subst (λ z. Known (compiled P) P z) (omega arith) (record {
        work = work_of m;
        gives = gives_value m;
        body =
            root_is P resolved n m e (body_at (compiled P) k.body) (member_is (compiled P) k m h);
        fits = resolved.bodies n m e;
      })
  member_known k m n e h (suc i) l =
      let a = member_piece (in_member k) m in
      let rest = generate (weight_all m.body) m (past (in_member k) a) a.branches in
      let w = (member_needs (in_member k) m.body (closes m)).is in
      let s = split (compiled P).sites a.sites rest.sites k.site h.sites in
      let t = split (compiled P).texts a.texts rest.texts k.text h.texts in
      let r = queue_known (compiled P) P (gives_value m) (weight_all m.body) (suc k.body) m (past (in_member k) a) a.branches (omega arith) refl
      (record { bodies = h.bodies.1; sites = s.1; texts = t.1 })
      (member_fit P (gives_value m) (in_member k) m.body (closes m) (resolved.bodies n m e)).is i (omega arith) in
      subst (λ z. Known (compiled P) P z) (omega arith) r

  members_known : (ms : List PlainMember) (k : Next) → OutputAt (compiled P) k k.body (members_output k ms) →
      ((n : ℕ) (m : PlainMember) → slice_get ms n ≡ Some m → (q : ℕ) × (member_at P q ≡ Some m)) → (i : ℕ) → i < length (members_output k ms).bodies →
      Known (compiled P) P (k.body + i)
  members_known [] k h is i l = absurd (omega arith)
  members_known (m ∷ ms) k h is i l =
      let a = member_output k m in
      let rest = members_output (past_output k a) ms in
      let c = length-append a.bodies rest.bodies in
      go (λ r lt. members_known ms (past_output k a) (first_output (compiled P) k m ms h).1 (λ n x e. is (suc n) x e) r lt)
      (splits (length a.bodies) (length rest.bodies) i (omega arith))
    where
      go : ((r : ℕ) → r < length (members_output (past_output k (member_output k m)) ms).bodies →
          Known (compiled P) P (k.body + length (member_output k m).bodies + r)) →
          (i < length (member_output k m).bodies) ⊎
          ((r : ℕ) × (i ≡ length (member_output k m).bodies + r) × (r < length (members_output (past_output k (member_output k m)) ms).bodies)) →
          Known (compiled P) P (k.body + i)
      go more (inl lt) = let q = is 0 m refl in member_known k m q.0 q.1 (first_output (compiled P) k m ms h).0 i lt
      go more (inr x) = let e = x.1 in subst (λ z. Known (compiled P) P z) (omega arith) (more x.0 x.2)

  body_known : (j : ℕ) → j < length (members_output first P.members).bodies → Known (compiled P) P j
  body_known j l = subst (λ z. Known (compiled P) P z) (omega arith) (members_known P.members first (bodies_at P) (λ n m e. (n, e)) j l)

  bodies_many : length (compiled P).bodies ≡ length (members_output first P.members).bodies
  unfolding compiled
  bodies_many = refl

  -- each body is some task's, in each frame
  pub bodies_are_compiled : {N M : Type 0} (j : ℕ) → j < length (compiled P).bodies →
      (w : Work) × ((f : Frame N M) → Compiled (compiled P) P (record { body = j; frame = f }) (record { work = w; frame = f }))
  bodies_are_compiled j l =
      let k = body_known j (let e = bodies_many in omega arith) in
      (k.work, λ f. record { body = k.body; frame = refl; gives = k.gives; fits = k.fits })
