-- The whole code is laid out by the scheme.
use Rattle.std.proofs.Common.{◌≡◌, ◌≤◌, inl, inr, ℕ, zero, suc, ◌+◌, Bool, true, false, not, List, [], ◌∷◌, ◌++◌, length, map, refl, sym, ap, subst, arith, Option, Some, None, slice_get, slice_index_or, length-append}
use Rattle.lang_base.specs.declared.place.Place.{Place}
use Rattle.lang_typed.specs.Plain.{TypedStmt, TypedStmts, TypedBranches, no_branches, more_branches, PlainMember, PlainProgram}
use Rattle.lang_typed.specs.Resolved.{is_void, gives_value, Resolved}
use Rattle.lang_typed.specs.Scope.{member_at}
use Rattle.lang_typed.specs.Statements.{all_complete}
use Rattle.lang_typed.proofs.Parts.{each_stmt, each_all}
use Rattle.code_instrs.specs.declared.instr.Instr.{Instr}
use Rattle.code_instrs.specs.declared.instr.Instr.TheVariants as i
use Rattle.code_instrs.specs.Plain.{Line, Title, Site, PlainBody, body_or_none, PlainCode, body_at}
use Rattle.code_scheme.specs.Pieces.{Branch, Piece, Next, past, nothing, line, with_site, with_text, with_branches, beside}
use Rattle.code_scheme.specs.Scheme.{closes, after_stmt, after_stmts, stmts_piece, branches_of, class_code}
use Rattle.code_scheme.specs.Stands.{LineAt, StmtAt, StmtsAt, MemberEnds, MemberIs, EndsAt, BodyIs, LaidOut}
use Rattle.code_scheme.specs.Compiled.{Compiled}
use Rattle.code_scheme.specs.Laws.{work_of}
use Rattle.lang_meaning.specs.Actions.{Frame}
use Rattle.code_scheme.specs.Whole.{weight, weight_all, weight_branches, no_place, place_of, branch_piece_of, branch_piece, closing, member_piece, body_of, Output, generate, in_member, member_output, past_output, members_output, member_numbers, first, number_in, compiled}
use Rattle.code_scheme.proofs.Built.{Nothing_asked, none_asked, Built, branch_built, member_built}
use Rattle.code_scheme.proofs.Closing.{never_ends}
use Rattle.code_scheme.proofs.Pieces.{Holds, split, all_of, BranchStands, Queued, queued, Laid, cut, here}
use Rattle.code_scheme.proofs.Placed.{stmt_far, stmts_far, stmt_at, stmts_at}

-- how many bodies a queue leads to
abbrev pub need : List Branch → ℕ
need [] = 0
need (b ∷ bs) = suc (weight b.stmt) + need bs

pub need_on : (xs ys : List Branch) → need (xs ++ ys) ≡ need xs + need ys
need_on [] ys = omega arith
need_on (x ∷ xs) ys = let r = need_on xs ys in omega arith

-- a piece puts branches into the queue that lead to n bodies
pub record Needs (a : Piece) (n : ℕ) : Type 0 where
  pub is : need a.branches ≡ n

both : {a b : Piece} {n m q : ℕ} → Needs a n → Needs b m → n + m ≡ q → Needs (beside a b) q
unfolding beside
both {a} {b} {n} {m} {q} x y e = let l = need_on a.branches b.branches in let u = x.is in let v = y.is in record { is = omega arith }

skip : {a : Piece} {n : ℕ} (x : Instr) (at : Place) → Needs a n → Needs (line x at a) n
unfolding line
skip x at y = record { is = y.is }

site : {a : Piece} {n : ℕ} (s : Site) → Needs a n → Needs (with_site s a) n
unfolding with_site
site s y = record { is = y.is }

its_text : {a : Piece} {n : ℕ} (t : List ℕ) → Needs a n → Needs (with_text t a) n
unfolding with_text
its_text t y = record { is = y.is }

stop_here : Needs nothing 0
stop_here = record { is = refl }

branch : {n : ℕ} (bs : List Branch) (a : Piece) → need bs ≡ n → Needs (with_branches bs a) n
unfolding with_branches
branch bs a e = record { is = e }

one_more : (n : ℕ) → suc n + 0 ≡ suc n
one_more n = omega arith

many_branches : (s n : ℕ) (bs : TypedBranches) → need (branches_of s n bs) ≡ weight_branches bs
many_branches s n no_branches = refl
many_branches s n (more_branches copies t bs) = let r = many_branches s (suc n) bs in omega arith

needs_built : Built Nothing_asked (λ p a q n. Needs a n)
needs_built = record {
  stop = λ p. stop_here;
  next = λ x at e h. skip x at h;
  both = λ h j. both h j refl;
  sited = λ s e h. site s h;
  texted = λ t h. its_text t h;
  cobegin = λ k p at forking bs h. branch _ _ (many_branches k.site 0 bs);
  foreach = λ k p at forking x start count s h. branch _ _ (one_more (weight s));
  foreach_parts = λ k p at x source count s h. branch _ _ (one_more (weight s));
}

pub branch_needs : (k : Next) (at : Place) (s : TypedStmt) (takes : Option ℕ) → Needs (branch_piece_of k at s takes) (weight s)
branch_needs k at s takes = branch_built Nothing_asked (λ p a q n. Needs a n) none_asked needs_built k at s takes tt

pub member_needs : (k : Next) (ss : TypedStmts) (z : Bool) → Needs (beside (stmts_piece k 0 ss) (closing z)) (weight_all ss)
member_needs k ss z = member_built Nothing_asked (λ p a q n. Needs a n) none_asked needs_built k ss z (each_all Nothing_asked (λ s. tt) (each_stmt ss))

module _ (C : PlainCode) where
  is_body : (j : ℕ) {b : PlainBody} → slice_get C.bodies j ≡ Some b → body_at C j ≡ b
  is_body j h = ap body_or_none h

  -- bodies, sites and texts stand in the code
  pub record OutputAt (k : Next) (j : ℕ) (a : Output) : Type 0 where
    pub bodies : Holds C.bodies j a.bodies
    pub sites : Holds C.sites k.site a.sites
    pub texts : Holds C.texts k.text a.texts

  branch_stands : (j : ℕ) (k : Next) (m : PlainMember) (t : Title) (s : TypedStmt) (takes : Option ℕ) (at : Place) →
      slice_get C.bodies j ≡ Some (body_of t m (branch_piece_of k at s takes)) →
      Laid C (branch_piece_of k at s takes).lines k 0 (branch_piece_of k at s takes) → BranchStands C j (record { title = t; takes = takes; stmt = s })
  branch_stands j k m t s None at e h =
      let x = cut C (stmt_far k 0 s) h in
      let z = stmt_at C _ k 0 s x.0 in
      record {
        title = ap (λ y. y.title) (is_body j e);
        begins = tt;
        stmt = subst (λ y. StmtAt C y.lines 0 s) (sym (is_body j e)) z;
        place = at;
        ends = subst (λ y. LineAt y.lines (after_stmt 0 s) i.End at) (sym (is_body j e)) (here C x.1).0;
      }
  branch_stands j k m t s (Some v) at e h =
      let u = here C h in
      let x = cut C (stmt_far k 1 s) u.1 in
      let z = stmt_at C _ k 1 s x.0 in
      record {
        title = ap (λ y. y.title) (is_body j e);
        begins = record { place = at; stands = subst (λ y. LineAt y.lines 0 (i.Part v) at) (sym (is_body j e)) u.0 };
        stmt = subst (λ y. StmtAt C y.lines 1 s) (sym (is_body j e)) z;
        place = at;
        ends = subst (λ y. LineAt y.lines (after_stmt 1 s) i.End at) (sym (is_body j e)) (here C x.1).0;
      }

  -- what stands from j on where the queue's first is numbered j, and the next after the queue is numbered by k
  pub generated : (n j : ℕ) (m : PlainMember) (k : Next) (todo : List Branch) → need todo ≤ n → j + length todo ≡ k.body →
      OutputAt k j (generate n m k todo) → Queued C j todo
  generated zero j m k [] l e h = tt
  generated zero j m k (b ∷ todo) l e h = absurd (omega arith)
  generated (suc n) j m k [] l e h = tt
  generated (suc n) j m k (b ∷ todo) l e h =
      let a = branch_piece k b in
      let rest = generate n m (past k a) (todo ++ a.branches) in
      let w = (branch_needs k (place_of b.stmt) b.stmt b.takes).is in
      let o = need_on todo a.branches in
      let c = length-append todo a.branches in
      let s = split C.sites a.sites rest.sites k.site h.sites in
      let t = split C.texts a.texts rest.texts k.text h.texts in
      let r = generated n (suc j) m (past k a) (todo ++ a.branches) (omega arith) (omega arith) (record { bodies = h.bodies.1; sites = s.1; texts = t.1 }) in
      let q = queued C todo a.branches (suc j) r in
      let own : Queued C k.body a.branches = subst (λ z. Queued C z a.branches) (omega arith) q.1 in (
        branch_stands j k m b.title b.stmt b.takes (place_of b.stmt) h.bodies.0 (record { lines = all_of a.lines; sites = s.0; texts = t.0; branches = own }),
        q.0,
      )

  -- a member and its branches
  pub member_queued : (k : Next) (m : PlainMember) → OutputAt k k.body (member_output k m) →
      Laid C (member_piece (in_member k) m).lines (in_member k) 0 (member_piece (in_member k) m)
  member_queued k m h =
      let a = member_piece (in_member k) m in
      let rest = generate (weight_all m.body) m (past (in_member k) a) a.branches in
      let w = (member_needs (in_member k) m.body (closes m)).is in
      let s = split C.sites a.sites rest.sites k.site h.sites in
      let t = split C.texts a.texts rest.texts k.text h.texts in
      record {
        lines = all_of a.lines;
        sites = s.0;
        texts = t.0;
        branches = generated (weight_all m.body) (suc k.body) m (past (in_member k) a) a.branches (omega arith) refl
            (record { bodies = h.bodies.1; sites = s.1; texts = t.1 });
      }

  closing_at : (c : List Line) (k : Next) (p : ℕ) (z : Bool) → Laid C c k p (closing z) → MemberEnds C c p z
  closing_at c k p true h = (no_place, (here C h).0)
  closing_at c k p false h = tt

  pub member_is : (k : Next) (m : PlainMember) → OutputAt k k.body (member_output k m) → MemberIs C (body_at C k.body) m
  member_is k m h =
      let a = member_piece (in_member k) m in
      let e = h.bodies.0 in
      let x = cut C (stmts_far (in_member k) 0 m.body) (member_queued k m h) in
      let z = stmts_at C _ (in_member k) 0 m.body x.0 in
      let y = closing_at _ _ _ (closes m) x.1 in
      record {
        slots = ap (λ b. b.slots) (is_body k.body e);
        local_regions = ap (λ b. b.local_regions) (is_body k.body e);
        stmts = subst (λ b. StmtsAt C b.lines 0 m.body) (sym (is_body k.body e)) z;
        ends = subst (λ b. MemberEnds C b.lines (after_stmts 0 m.body) (closes m)) (sym (is_body k.body e)) y;
      }

  pub first_output : (k : Next) (m : PlainMember) (ms : List PlainMember) → OutputAt k k.body (members_output k (m ∷ ms)) →
      OutputAt k k.body (member_output k m) × OutputAt (past_output k (member_output k m)) (past_output k (member_output k m)).body
      (members_output (past_output k (member_output k m)) ms)
  first_output k m ms h =
      let a = member_output k m in
      let rest = members_output (past_output k a) ms in
      let b = split C.bodies a.bodies rest.bodies k.body h.bodies in
      let s = split C.sites a.sites rest.sites k.site h.sites in
      let t = split C.texts a.texts rest.texts k.text h.texts in
      (record { bodies = b.0; sites = s.0; texts = t.0 }, record { bodies = b.1; sites = s.1; texts = t.1 })

  members_are : (ms : List PlainMember) (k : Next) → OutputAt k k.body (members_output k ms) → (n : ℕ) (m : PlainMember) → slice_get ms n ≡ Some m →
      MemberIs C (body_at C (slice_index_or (member_numbers k ms) n 0)) m
  members_are [] k h n m e = absurd (cc)
  members_are (x ∷ ms) k h zero m e = let r : x ≡ m = cc in subst (λ y. MemberIs C (body_at C k.body) y) r (member_is k x (first_output k x ms h).0)
  members_are (x ∷ ms) k h (suc n) m e = members_are ms (past_output k (member_output k x)) (first_output k x ms h).1 n m e

pub bodies_at : (P : PlainProgram) → OutputAt (compiled P) first 0 (members_output first P.members)
unfolding compiled
bodies_at P = record { bodies = all_of _; sites = all_of _; texts = all_of _ }

classes_are : (P : PlainProgram) → (compiled P).classes ≡ map (class_code P (number_in P)) P.classes
unfolding compiled
classes_are P = refl

pub members_at : (P : PlainProgram) (n : ℕ) (m : PlainMember) → member_at P n ≡ Some m → MemberIs (compiled P) (body_at (compiled P) (number_in P n)) m
unfolding number_in
members_at P n m e = members_are (compiled P) P.members first (bodies_at P) n m e

-- the code of a program is laid out by the scheme
pub laid_out : (P : PlainProgram) → LaidOut (compiled P) P (number_in P)
laid_out P = record { classes = classes_are P; members = members_at P }

-- each member is compiled
pub root_is : (P : PlainProgram) (resolved : Resolved P) (n : ℕ) (m : PlainMember) → member_at P n ≡ Some m → (b : PlainBody) → MemberIs (compiled P) b m →
    BodyIs (compiled P) b (work_of m)
root_is P resolved n m e b is = record { begins = tt; stmts = is.stmts; ends = go (closes m) refl is.ends }
  where
    go : (z : Bool) → closes m ≡ z → MemberEnds (compiled P) b.lines (after_stmts 0 m.body) z →
        EndsAt (compiled P) b (after_stmts 0 m.body) (work_of m) true
    go true q h = inl h
    go false q h = inr (never_ends (is_void m.result) (all_complete m.body) q (λ v. resolved.ends n m e (ap not v)))

pub members_are_compiled : {N M : Type 0} (P : PlainProgram) → Resolved P → (n : ℕ) (m : PlainMember) → member_at P n ≡ Some m → (f : Frame N M) →
    Compiled (compiled P) P (record { body = number_in P n; frame = f }) (record { work = work_of m; frame = f })
members_are_compiled P resolved n m e f = record {
  body = root_is P resolved n m e _ (members_at P n m e);
  frame = refl;
  gives = gives_value m;
  fits =
      resolved.bodies n m e;
}
