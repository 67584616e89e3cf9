-- Each body of the code is that of statements which fit, with room for its branches.
use Rattle.std.proofs.Common.{◌≡◌, ◌<◌, ◌≤◌, ◌⊎◌, inl, inr, ℕ, zero, suc, ◌+◌, Bool, true, false, not, List, [], ◌∷◌, ◌++◌, length, refl, sym, ap, ◌∙◌, subst, arith, Option, Some, None, slice_get, slice_index_or, length-append}
use Rattle.std.proofs.lemmas.Option.{slice_get_within}
use Rattle.lang_base.specs.declared.place.Place.{Place}
use Rattle.lang_typed.specs.Plain.{TypedStmt, statement, TypedStmts, no_stmts, more_stmts, TypedBranches, no_branches, more_branches, PlainMember, PlainProgram}
use Rattle.lang_typed.specs.Plain.{StmtForm as form}
use Rattle.lang_typed.specs.Resolved.{is_void, gives_value, StmtFits, StmtsFit, BranchesFit, Resolved}
use Rattle.lang_typed.specs.Scope.{member_at}
use Rattle.lang_typed.proofs.Parts.{each_stmt, substatements, Each}
use Rattle.lang_typed.proofs.Resolved.{each_fits, parts_fit}
use Rattle.lang_typed.specs.Statements.{all_complete}
use Rattle.code_instrs.specs.declared.instr.Instr.TheVariants as i
use Rattle.code_instrs.specs.Plain.{PlainBody, body_or_none, PlainCode, body_at}
use Rattle.code_instrs.specs.Fit.{is_branch, MemberBody}
use Rattle.code_scheme.specs.Pieces.{Branch, Piece, Next, past, beside}
use Rattle.code_scheme.specs.Scheme.{closes, after_stmts, stmts_piece, branches_of}
use Rattle.code_scheme.specs.Stands.{LineAt, first_place, BeginsAt, StmtsAt, MemberEnds}
use Rattle.code_scheme.specs.Whole.{weight_all, place_of, branch_piece_of, branch_piece, closing, member_piece, generate, in_member, member_output, past_output, members_output, member_numbers, first, number_in, compiled}
use Rattle.code_scheme.proofs.Closing.{leaves_nothing, never_ends}
use Rattle.code_scheme.proofs.Branched.{AllAre, all_on, Branches, branches_none, branches_line, branches_both, branches_site, branches_text, branches_start}
use Rattle.code_scheme.proofs.Built.{Built, branch_built, member_built}
use Rattle.code_scheme.proofs.Pieces.{Holds, split, all_of, Queued, queued, Laid}
use Rattle.code_scheme.proofs.Placed.{stmt_far, stmts_far}
use Rattle.code_scheme.proofs.Whole.{need, need_on, branch_needs, member_needs, OutputAt, generated, member_queued, member_is, first_output, bodies_at}
use Rattle.code_fit.specs.Room.{StmtWithin, StmtsWithin, BranchesWithin, Roomy}
use Rattle.code_fit.proofs.Lists.{index_is}
use Rattle.code_fit.proofs.Typed.{Within, each_within, parts_within}
use Rattle.code_fit.proofs.Linked.{Rooted, rooted, Stands, cut_here, skip, Linked, AllLinked, linked, all_linked}

-- a branch that takes a part has slots for it
abbrev pub TakesWithin : ℕ → Option ℕ → Type 0
TakesWithin n None = Unit {0}
TakesWithin n (Some x) = x + 4 < n

-- what is asked of the branches of a member: y: it gives a value; it has n slots and r local regions
module _ (P : PlainProgram) (y : Bool) (n r : ℕ) where
  record Good (b : Branch) : Type 0 where
    titled : is_branch b.title ≡ true
    takes : TakesWithin n b.takes
    fits : StmtFits P y b.stmt
    within : StmtWithin P n r false b.stmt

  abbrev Goods : Piece → Type 0
  Goods a = Branches Good a

  each_good : (s k : ℕ) (bs : TypedBranches) → BranchesFit P y bs → BranchesWithin P n r bs → AllAre Good (branches_of s k bs)
  each_good s k no_branches ok w = tt
  each_good s k (more_branches copies t bs) ok w =
      (record { titled = refl; takes = tt; fits = ok.0; within = w.1 }, each_good s (suc k) bs ok.1 w.2)

  -- a statement that fits, within the bounds
  abbrev Kept : TypedStmt → Type 0
  Kept s = StmtFits P y s × Within P n r s

  both_kept : (ss : List TypedStmt) → Each (StmtFits P y) ss → Each (Within P n r) ss → Each Kept ss
  both_kept [] f w = tt
  both_kept (s ∷ ss) f w = ((f.0, w.0), both_kept ss f.1 w.1)

  parts_kept : (s : TypedStmt) → Kept s → Each Kept (substatements s)
  parts_kept s h = both_kept (substatements s) (parts_fit P y s h.0) (parts_within P n r s h.1)

  good_built : Built Kept (λ p a q m. Goods a)
  good_built = record {
    stop = λ p. branches_none;
    next = λ x at e h. branches_line x at h;
    both = λ h j. branches_both h j;
    sited = λ s e h. branches_site s _ h;
    texted = λ t h. branches_text t h;
    cobegin = λ k p at forking bs h. branches_start _ _ (each_good k.site 0 bs h.0 h.1.1);
    foreach = λ k p at forking x start count s h. branches_start _ _ (record { titled = refl; takes = tt; fits = h.0.2; within = h.1.1.3 }, tt);
    foreach_parts = λ k p at x source count s h. branches_start _ _ (
      record {
        titled = refl;
        takes = h.1.1.0;
        fits = (parts_fit P y (statement at (form.foreach_parts x source count s)) h.0).0;
        within = h.1.1.3;
      },
      tt,
    );
  }

  branch_good : (k : Next) (at : Place) (s : TypedStmt) (takes : Option ℕ) → StmtFits P y s → StmtWithin P n r false s → Goods (branch_piece_of k at s takes)
  branch_good k at s takes ok w = branch_built Kept (λ p a q m. Goods a) parts_kept good_built k at s takes (ok, (false, w))

  member_good : (k : Next) (ss : TypedStmts) (z : Bool) → StmtsFit P y ss → StmtsWithin P n r true ss → Goods (beside (stmts_piece k 0 ss) (closing z))
  member_good k ss z ok w =
      member_built Kept (λ p a q m. Goods a) parts_kept good_built k ss z (both_kept (each_stmt ss) (each_fits P y ss ok) (each_within P n r true ss w))

module _ (C : PlainCode) (P : PlainProgram) (gives : ℕ → Bool) where
  -- how a body ends, where it comes to its end
  abbrev pub Ends : ℕ → ℕ → TypedStmts → Type 0
  Ends j p ss =
      ((at : Place) × LineAt (body_at C j).lines p i.Leave at × (gives j ≡ false) × (is_branch (body_at C j).title ≡ false)) ⊎
      (((at : Place) × LineAt (body_at C j).lines p i.End at × (is_branch (body_at C j).title ≡ true)) ⊎ (all_complete ss ≡ false))

  -- a body is that of statements which fit
  pub record Known (j : ℕ) : Type 0 where
    pub takes : Option ℕ
    pub stmts : TypedStmts
    pub begins : BeginsAt C (body_at C j).lines takes
    pub takes_within : TakesWithin (body_at C j).slots takes
    pub at : StmtsAt C (body_at C j).lines (first_place takes) stmts
    pub linked : AllLinked C (body_at C j) (first_place takes) stmts
    pub fits : StmtsFit P (gives j) stmts
    pub may : Bool
    pub within : StmtsWithin P (body_at C j).slots (body_at C j).local_regions may stmts
    pub member : may ≡ true → is_branch (body_at C j).title ≡ false
    pub ends : Ends j (after_stmts (first_place takes) stmts) stmts

  is_body : (j : ℕ) {b : PlainBody} → slice_get C.bodies j ≡ Some b → body_at C j ≡ b
  is_body j h = ap body_or_none h

  -- the room of a body is that of its member
  within_here : {n r s t : ℕ} (may : Bool) (ss : TypedStmts) → n ≡ s → r ≡ t → StmtsWithin P s t may ss → StmtsWithin P n r may ss
  within_here {n} {r} {s} {t} may ss e f w = subst (λ z. StmtsWithin P n z may ss) (sym f) (subst (λ z. StmtsWithin P z t may ss) (sym e) w)

  -- the branches in the queue have the room of their member
  rooted_queue : (n j : ℕ) (m : PlainMember) (k : Next) (todo : List Branch) → need todo ≤ n → j + length todo ≡ k.body →
      OutputAt C k j (generate n m k todo) → (b : PlainBody) → b.slots ≡ m.slots → b.local_regions ≡ m.local_regions → Rooted C b j todo
  rooted_queue zero j m k [] l e h b s r = tt
  rooted_queue zero j m k (x ∷ todo) l e h b s r = absurd (omega arith)
  rooted_queue (suc n) j m k [] l e h b s r = tt
  rooted_queue (suc n) j m k (x ∷ todo) l e h b s r =
      let a = branch_piece k x in
      let more = generate n m (past k a) (todo ++ a.branches) in
      let w = (branch_needs k (place_of x.stmt) x.stmt x.takes).is in
      let o = need_on todo a.branches in
      let c = length-append todo a.branches in
      let u = split C.sites a.sites more.sites k.site h.sites in
      let v = split C.texts a.texts more.texts k.text h.texts in
      let q = rooted_queue n (suc j) m (past k a) (todo ++ a.branches) (omega arith) (omega arith)
      (record { bodies = h.bodies.1; sites = u.1; texts = v.1 }) b s r in (
        record {
          slots = ap (λ y. y.slots) (is_body j h.bodies.0) ∙ sym s;
          local_regions = ap (λ y. y.local_regions) (is_body j h.bodies.0) ∙ sym r;
        },
        (rooted C b todo a.branches (suc j) q).0,
      )

  branch_linked : (b : PlainBody) (k : Next) (at : Place) (s : TypedStmt) (takes : Option ℕ) → Stands C b k 0 (branch_piece_of k at s takes) →
      Linked C b (first_place takes) s
  branch_linked b k at s None h = linked C b k 0 s (cut_here C b (stmt_far k 0 s) h).0
  branch_linked b k at s (Some x) h = linked C b k 1 s (cut_here C b (stmt_far k 1 s) (skip C b _ _ h)).0

  queue_known : (y : Bool) (n j : ℕ) (m : PlainMember) (k : Next) (todo : List Branch) → need todo ≤ n → j + length todo ≡ k.body →
      OutputAt C k j (generate n m k todo) → AllAre (Good P y m.slots m.local_regions) todo →
      ((i : ℕ) → i < length (generate n m k todo).bodies → gives (j + i) ≡ y) → (i : ℕ) → i < length (generate n m k todo).bodies → Known (j + i)
  queue_known y zero j m k todo l e h f g i lt = absurd (omega arith)
  queue_known y (suc n) j m k [] l e h f g i lt = absurd (omega arith)
  queue_known y (suc n) j m k (b ∷ todo) l e h f g zero lt =
      let a = branch_piece k b in
      let more = generate n m (past k a) (todo ++ a.branches) in
      let w = (branch_needs k (place_of b.stmt) b.stmt b.takes).is in
      let o = need_on todo a.branches in
      let c = length-append todo a.branches in
      let s = split C.sites a.sites more.sites k.site h.sites in
      let t = split C.texts a.texts more.texts k.text h.texts in
      let rest : OutputAt C (past k a) (suc j) more = record { bodies = h.bodies.1; sites = s.1; texts = t.1 } in
      let is = is_body j h.bodies.0 in
      let slots = ap (λ z. z.slots) is in
      let regions = ap (λ z. z.local_regions) is in
      let q = queued C todo a.branches (suc j) (generated C n (suc j) m (past k a) (todo ++ a.branches) (omega arith) (omega arith) rest) in
      let r = rooted C (body_at C j) todo a.branches (suc j)
      (rooted_queue n (suc j) m (past k a) (todo ++ a.branches) (omega arith) (omega arith) rest (body_at C j) slots regions) in
      let laid : Laid C a.lines k 0 a = record {
        lines = all_of a.lines;
        sites = s.0;
        texts = t.0;
        branches = subst (λ z. Queued C z a.branches) (omega arith) q.1;
      } in
      let stands : Stands C (body_at C j) k 0 a = record {
        laid = subst (λ z. Laid C z k 0 a) (sym (ap (λ z. z.lines) is)) laid;
        branches = subst (λ z. Rooted C (body_at C j) z a.branches) (omega arith) r.1;
      } in
      let x = (generated C (suc n) j m k (b ∷ todo) l e h).0 in
      let same : gives j ≡ y = subst (λ z. gives z ≡ y) (omega arith) (g 0 lt) in
      subst (λ z. Known z) (omega arith) (record {
        takes = b.takes;
        stmts = more_stmts b.stmt no_stmts;
        begins = x.begins;
        takes_within = subst (λ z. TakesWithin z b.takes) (sym slots) f.0.takes;
        at = (x.stmt, tt);
        linked = (branch_linked (body_at C j) k (place_of b.stmt) b.stmt b.takes stands, tt);
        fits = subst (λ z. StmtsFit P z (more_stmts b.stmt no_stmts)) (sym same) (f.0.fits, inr refl, tt);
        may = false;
        within = within_here false (more_stmts b.stmt no_stmts) slots regions (f.0.within, tt);
        member = λ c. absurd (cc);
        ends = inr (inl (x.place, x.ends, ap is_branch x.title ∙ f.0.titled));
      })
  queue_known y (suc n) j m k (b ∷ todo) l e h f g (suc i) lt =
      let a = branch_piece k b in
      let more = generate n m (past k a) (todo ++ a.branches) in
      let w = (branch_needs k (place_of b.stmt) b.stmt b.takes).is in
      let o = need_on todo a.branches in
      let c = length-append todo a.branches in
      let s = split C.sites a.sites more.sites k.site h.sites in
      let t = split C.texts a.texts more.texts k.text h.texts in
      let r = queue_known y n (suc j) m (past k a) (todo ++ a.branches) (omega arith) (omega arith)
      (record { bodies = h.bodies.1; sites = s.1; texts = t.1 })
      (all_on (Good P y m.slots m.local_regions) todo a.branches f.1
      (branch_good P y m.slots m.local_regions k (place_of b.stmt) b.stmt b.takes f.0.fits f.0.within).is)
      (λ q v. subst (λ z. gives z ≡ y) (omega arith) (g (suc q) (omega arith))) i (omega arith) in
      subst (λ z. Known z) (omega arith) r

  member_known : Resolved P → Roomy P → (k : Next) (m : PlainMember) (n : ℕ) → member_at P n ≡ Some m → OutputAt C k k.body (member_output k m) →
      ((i : ℕ) → i < length (member_output k m).bodies → gives (k.body + i) ≡ gives_value m) → (i : ℕ) → i < length (member_output k m).bodies →
      Known (k.body + i)
  member_known resolved roomy k m n e h g zero l =
      let a = member_piece (in_member k) m in
      let more = generate (weight_all m.body) m (past (in_member k) a) a.branches in
      let w = (member_needs (in_member k) m.body (closes m)).is in
      let s = split C.sites a.sites more.sites k.site h.sites in
      let t = split C.texts a.texts more.texts k.text h.texts in
      let is = member_is C k m h in
      let r = rooted_queue (weight_all m.body) (suc k.body) m (past (in_member k) a) a.branches (omega arith) refl
      (record { bodies = h.bodies.1; sites = s.1; texts = t.1 }) (body_at C k.body) is.slots is.local_regions in
      let stands : Stands C (body_at C k.body) (in_member k) 0 a = record {
        laid = subst (λ z. Laid C z (in_member k) 0 a) (sym (ap (λ z. z.lines) (is_body k.body h.bodies.0))) (member_queued C k m h);
        branches = r;
      } in
      let same : gives k.body ≡ gives_value m = subst (λ z. gives z ≡ gives_value m) (omega arith) (g 0 l) in
      subst (λ z. Known z) (omega arith) (record {
        takes = None;
        stmts = m.body;
        begins = tt;
        takes_within = tt;
        at = is.stmts;
        linked = all_linked C (body_at C k.body) (in_member k) 0 m.body (cut_here C (body_at C k.body) (stmts_far (in_member k) 0 m.body) stands).0;
        fits = subst (λ z. StmtsFit P z m.body) (sym same) (resolved.bodies n m e);
        may = true;
        within = within_here true m.body is.slots is.local_regions (roomy.bodies n m e);
        member = λ c. ap (λ z. is_branch z.title) (is_body k.body h.bodies.0);
        ends = go (closes m) refl same (ap (λ z. is_branch z.title) (is_body k.body h.bodies.0)) is.ends;
      })
    where
      go : (z : Bool) → closes m ≡ z → gives k.body ≡ gives_value m → is_branch (body_at C k.body).title ≡ false → MemberEnds C (body_at C k.body).lines (after_stmts 0 m.body) z →
          Ends k.body (after_stmts 0 m.body) m.body
      go true q same t x = inl (x.0, x.1, same ∙ ap not (leaves_nothing (is_void m.result) (all_complete m.body) q), t)
      go false q same t x = inr (inr (never_ends (is_void m.result) (all_complete m.body) q (λ v. resolved.ends n m e (ap not v))))
  member_known resolved roomy k m n e h g (suc i) l =
      let a = member_piece (in_member k) m in
      let more = generate (weight_all m.body) m (past (in_member k) a) a.branches in
      let w = (member_needs (in_member k) m.body (closes m)).is in
      let s = split C.sites a.sites more.sites k.site h.sites in
      let t = split C.texts a.texts more.texts k.text h.texts in
      let r = queue_known (gives_value m) (weight_all m.body) (suc k.body) m (past (in_member k) a) a.branches (omega arith) refl
      (record { bodies = h.bodies.1; sites = s.1; texts = t.1 })
      (member_good P (gives_value m) m.slots m.local_regions (in_member k) m.body (closes m) (resolved.bodies n m e) (roomy.bodies n m e)).is
      (λ q v. subst (λ z. gives z ≡ gives_value m) (omega arith) (g (suc q) (omega arith))) i (omega arith) in
      subst (λ z. Known z) (omega arith) r

-- of each body, whether its member gives a value
same : ℕ → Bool → List Bool
same zero y = []
same (suc n) y = y ∷ same n y

length_same : (n : ℕ) (y : Bool) → length (same n y) ≡ n
unfolding same
length_same zero y = refl
length_same (suc n) y = ap suc (length_same n y)

same_at : (c : List Bool) (n q : ℕ) (y : Bool) → Holds c q (same n y) → (i : ℕ) → i < n → slice_get c (q + i) ≡ Some y
unfolding same
same_at c zero q y h i l = absurd (omega arith)
same_at c (suc n) q y h zero l = subst (λ z. slice_get c z ≡ Some y) (omega arith) h.0
same_at c (suc n) q y h (suc i) l = subst (λ z. slice_get c z ≡ Some y) (omega arith) (same_at c n (suc q) y h.1 i (omega arith))

abbrev kinds : Next → List PlainMember → List Bool
kinds k [] = []
kinds k (m ∷ ms) = same (length (member_output k m).bodies) (gives_value m) ++ kinds (past_output k (member_output k m)) ms

pub gives_in : PlainProgram → ℕ → Bool
gives_in P j = slice_index_or (kinds first P.members) j false

-- a place is before n, or so far after it
splits : (n m i : ℕ) → i < n + m → (i < n) ⊎ ((r : ℕ) × (i ≡ n + r) × (r < m))
splits zero m i l = inr (i, omega arith, omega arith)
splits (suc n) m zero l = inl (omega arith)
splits (suc n) m (suc i) l = go (splits n m i (omega arith))
  where
    go : (i < n) ⊎ ((r : ℕ) × (i ≡ n + r) × (r < m)) → (suc i < suc n) ⊎ ((r : ℕ) × (suc i ≡ suc n + r) × (r < m))
    go (inl h) = inl (omega arith)
    go (inr h) = inr (h.0, (let e = h.1 in omega arith), h.2)

module _ (P : PlainProgram) where
  kind_is : (j : ℕ) (y : Bool) → slice_get (kinds first P.members) j ≡ Some y → gives_in P j ≡ y
  unfolding gives_in
  kind_is j y e = index_is (kinds first P.members) j false y e

  first_kinds : (k : Next) (m : PlainMember) (ms : List PlainMember) → Holds (kinds first P.members) k.body (kinds k (m ∷ ms)) →
      ((i : ℕ) → i < length (member_output k m).bodies → gives_in P (k.body + i) ≡ gives_value m) ×
      Holds (kinds first P.members) (past_output k (member_output k m)).body (kinds (past_output k (member_output k m)) ms)
  first_kinds k m ms h =
      let n = length (member_output k m).bodies in
      let u = split (kinds first P.members) (same n (gives_value m)) (kinds (past_output k (member_output k m)) ms) k.body h in
      let e = length_same n (gives_value m) in (
        λ i l. kind_is (k.body + i) (gives_value m) (same_at (kinds first P.members) n k.body (gives_value m) u.0 i l),
        subst (λ z. Holds (kinds first P.members) z (kinds (past_output k (member_output k m)) ms)) (omega arith) u.1,
      )

  members_known : Resolved P → Roomy P → (ms : List PlainMember) (k : Next) → OutputAt (compiled P) k k.body (members_output k ms) →
      Holds (kinds first P.members) k.body (kinds k ms) → ((n : ℕ) (m : PlainMember) → slice_get ms n ≡ Some m → (q : ℕ) × (member_at P q ≡ Some m)) →
      (i : ℕ) → i < length (members_output k ms).bodies → Known (compiled P) P (gives_in P) (k.body + i)
  members_known resolved roomy [] k h g is i l = absurd (omega arith)
  members_known resolved roomy (m ∷ ms) k h g is i l =
      let a = member_output k m in
      let rest = members_output (past_output k a) ms in
      let c = length-append a.bodies rest.bodies in
      let f = first_kinds k m ms g in
      go f.0 (λ r lt. members_known resolved roomy ms (past_output k a) (first_output (compiled P) k m ms h).1 f.1 (λ n x e. is (suc n) x e) r lt)
      (splits (length a.bodies) (length rest.bodies) i (omega arith))
    where
      go : ((i : ℕ) → i < length (member_output k m).bodies → gives_in P (k.body + i) ≡ gives_value m) →
          ((r : ℕ) → r < length (members_output (past_output k (member_output k m)) ms).bodies →
          Known (compiled P) P (gives_in P) (k.body + length (member_output k m).bodies + r)) →
          (i < length (member_output k m).bodies) ⊎
          ((r : ℕ) × (i ≡ length (member_output k m).bodies + r) × (r < length (members_output (past_output k (member_output k m)) ms).bodies)) →
          Known (compiled P) P (gives_in P) (k.body + i)
      go f more (inl lt) =
          let q = is 0 m refl in member_known (compiled P) P (gives_in P) resolved roomy k m q.0 q.1 (first_output (compiled P) k m ms h).0 f i lt
      go f more (inr x) = let e = x.1 in subst (λ z. Known (compiled P) P (gives_in P) z) (omega arith) (more x.0 x.2)

  bodies_many : length (compiled P).bodies ≡ length (members_output first P.members).bodies
  unfolding compiled
  bodies_many = refl

  pub body_known : Resolved P → Roomy P → (j : ℕ) → j < length (compiled P).bodies → Known (compiled P) P (gives_in P) j
  body_known resolved roomy j l =
      let e = bodies_many in
      subst (λ z. Known (compiled P) P (gives_in P) z) (omega arith)
      (members_known resolved roomy P.members first (bodies_at P) (all_of (kinds first P.members)) (λ n m e. (n, e)) j (omega arith))

  -- the body of a member
  member_bodies : (ms : List PlainMember) (k : Next) → OutputAt (compiled P) k k.body (members_output k ms) →
      Holds (kinds first P.members) k.body (kinds k ms) → (n : ℕ) (m : PlainMember) → slice_get ms n ≡ Some m →
      MemberBody (compiled P) (gives_in P) (slice_index_or (member_numbers k ms) n 0) (gives_value m)
  member_bodies [] k h g n m e = absurd (cc)
  member_bodies (x ∷ ms) k h g zero m e =
      let a = first_output (compiled P) k x ms h in
      let is = is_body (compiled P) P (gives_in P) k.body a.0.bodies.0 in
      let r : x ≡ m = cc in
      record {
        is_there = slice_get_within (compiled P).bodies k.body _ a.0.bodies.0;
        kind = subst (λ z. gives_in P z ≡ gives_value x) (omega arith) ((first_kinds k x ms g).0 0 (omega arith)) ∙ ap gives_value r;
        member = ap (λ z. is_branch z.title) is;
      }
  member_bodies (x ∷ ms) k h g (suc n) m e =
      member_bodies ms (past_output k (member_output k x)) (first_output (compiled P) k x ms h).1 (first_kinds k x ms g).1 n m e

  pub member_body : (n : ℕ) (m : PlainMember) → member_at P n ≡ Some m → MemberBody (compiled P) (gives_in P) (number_in P n) (gives_value m)
  unfolding number_in
  member_body n m e = member_bodies P.members first (bodies_at P) (all_of (kinds first P.members)) n m e
