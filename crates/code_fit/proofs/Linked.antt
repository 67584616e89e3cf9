-- Branches that a body starts have its slots and local regions, and the texts that it prints are there.
use Rattle.std.proofs.Common.{◌≡◌, ◌<◌, ℕ, suc, ◌+◌, true, List, [], ◌∷◌, ◌++◌, length, refl, ap, ◌∙◌, subst, arith, Option, Some, None, slice_get}
use Rattle.std.proofs.lemmas.Option.{slice_get_within}
use Rattle.lang_base.specs.declared.place.Place.{Place}
use Rattle.lang_typed.specs.declared.stmt.Forking.{Forking}
use Rattle.lang_typed.specs.declared.stmt.Forking.TheVariants.{Deterministic}
use Rattle.lang_typed.specs.Plain.{of_array, of_part, TypedStmt, statement, TypedStmts, no_stmts, more_stmts, TypedBranches, no_branches, more_branches}
use Rattle.lang_typed.specs.Plain.{StmtForm as form}
use Rattle.code_instrs.specs.declared.instr.Instr.{Instr}
use Rattle.code_instrs.specs.declared.instr.Instr.TheVariants as i
use Rattle.code_instrs.specs.Plain.{PlainBody, body_or_none, fork_site, spread_site, of_branch, PlainCode, body_at}
use Rattle.code_instrs.specs.Fit.{is_branch, BranchBody, AllBranches}
use Rattle.code_scheme.specs.Pieces.{Branch, Piece, Next, past, nothing, line, with_branches, beside}
use Rattle.code_scheme.specs.Scheme.{after_expr, after_stmt, stmt_piece, stmts_piece, spread_piece, numbers, copy_lists, branches_of}
use Rattle.code_scheme.specs.Stands.{LineAt}
use Rattle.code_scheme.proofs.Pieces.{Far, next, stop, sited, BranchStands, Queued, Laid, cut, here, here_texted, here_branched, one_line}
use Rattle.code_scheme.proofs.Placed.{expr_far, stmt_far, stmts_far}

copies_many : (bs : TypedBranches) (j : ℕ) → length (copy_lists bs) ≡ length (numbers j bs)
copies_many no_branches j = refl
copies_many (more_branches copies s bs) j = ap suc (copies_many bs (suc j))

module _ (C : PlainCode) where
  -- a branch is there, since its title says so
  pub branch_there : (j : ℕ) → is_branch (body_at C j).title ≡ true → j < length C.bodies
  branch_there j e = go (slice_get C.bodies j) refl e
    where
      go : (o : Option PlainBody) → slice_get C.bodies j ≡ o → is_branch (body_or_none o).title ≡ true → j < length C.bodies
      go None q f = absurd (cc)
      go (Some b) q f = slice_get_within C.bodies j b q

  module _ (b : PlainBody) where
    pub record SameRoom (j : ℕ) : Type 0 where
      pub slots : (body_at C j).slots ≡ b.slots
      pub local_regions : (body_at C j).local_regions ≡ b.local_regions

    -- the bodies of branches, from j on, have the room of this one
    abbrev pub Rooted : ℕ → List Branch → Type 0
    Rooted j [] = Unit {0}
    Rooted j (x ∷ xs) = SameRoom j × Rooted (suc j) xs

    pub rooted : (xs ys : List Branch) (j : ℕ) → Rooted j (xs ++ ys) → Rooted j xs × Rooted (j + length xs) ys
    rooted [] ys j h = (tt, subst (λ q. Rooted q ys) (omega arith) h)
    rooted (x ∷ xs) ys j h = let r = rooted xs ys (suc j) h.1 in ((h.0, r.0), subst (λ q. Rooted q ys) (omega arith) r.1)

    -- a piece stands from p on, and its branches have the room of the body
    pub record Stands (k : Next) (p : ℕ) (a : Piece) : Type 0 where
      pub laid : Laid C b.lines k p a
      pub branches : Rooted k.body a.branches

    pub cut_here : {k : Next} {p q : ℕ} {x y : Piece} → Far p x q → Stands k p (beside x y) → Stands k p x × Stands (past k x) q y
    unfolding beside
    cut_here {k} {p} {q} {x} {y} e h =
        let l = cut C e h.laid in
        let r = rooted x.branches y.branches k.body h.branches in (record { laid = l.0; branches = r.0 }, record { laid = l.1; branches = r.1 })

    pub skip : {k : Next} {p : ℕ} {a : Piece} (x : Instr) (at : Place) → Stands k p (line x at a) → Stands k (suc p) a
    unfolding line
    skip x at h = record { laid = (here C h.laid).1; branches = h.branches }

    of_branches : (j : ℕ) (bs : List Branch) (a : Piece) → Rooted j (with_branches bs a).branches → Rooted j bs
    unfolding with_branches
    of_branches j bs a h = h

    branch_body : (site n j : ℕ) (x : Branch) → x.title ≡ of_branch site n → BranchStands C j x → SameRoom j → BranchBody C b j
    branch_body site n j x e s r =
        let t : is_branch (body_at C j).title ≡ true = ap is_branch (s.title ∙ e) in
        record { is_there = branch_there j t; branch = t; slots = r.slots; local_regions = r.local_regions }

    all_branches : (bs : TypedBranches) (site n j : ℕ) → Queued C j (branches_of site n bs) → Rooted j (branches_of site n bs) →
        AllBranches C b (numbers j bs)
    all_branches no_branches site n j q r = tt
    all_branches (more_branches copies s bs) site n j q r = (branch_body site n j _ refl q.0 r.0, all_branches bs site (suc n) (suc j) q.1 r.1)

    pub record TextThere (p : ℕ) : Type 0 where
      pub number : ℕ
      pub place : Place
      pub stands : LineAt b.lines p (i.Text number) place
      pub is_there : number < length C.texts

    pub record ForkThere (p : ℕ) (copies : List (List ℕ)) : Type 0 where
      pub number : ℕ
      pub place : Place
      pub forking : Forking
      pub bodies : List ℕ
      pub stands : LineAt b.lines p (i.Fork number) place
      pub site_is : slice_get C.sites number ≡ Some (fork_site forking bodies copies)
      pub many : length copies ≡ length bodies
      pub branches : AllBranches C b bodies

    pub record SpreadThere (p slot : ℕ) : Type 0 where
      pub number : ℕ
      pub place : Place
      pub forking : Forking
      pub body : ℕ
      pub stands : LineAt b.lines p (i.Spread number) place
      pub site_is : slice_get C.sites number ≡ Some (spread_site forking body slot)
      pub branch : BranchBody C b body

    spread_there : (k : Next) (p : ℕ) (at : Place) (forking : Forking) (x : ℕ) (takes : Option ℕ) (s : TypedStmt) →
        Stands k p (spread_piece k at forking x takes s) → SpreadThere p x
    spread_there k p at forking x takes s h =
        let g = here_branched C _ _ h.laid in
        let r = of_branches k.body _ _ h.branches in
        record {
          number = k.site;
          place = at;
          forking = forking;
          body = k.body;
          stands = (one_line b.lines p _ g.2).0;
          site_is = g.1;
          branch = branch_body k.site 0 k.body _ refl g.0.0 r.0;
        }

    -- what branches and texts ask for in a statement that stands at p
    abbrev mutual
      pub Linked : ℕ → TypedStmt → Type 0
      Linked p (statement at (form.block ss)) = AllLinked p ss
      Linked p (statement at (form.choice e s)) = Linked (suc (after_expr p e)) s
      Linked p (statement at (form.choice_else e s t)) = Linked (suc (after_expr p e)) s × Linked (suc (after_stmt (suc (after_expr p e)) s)) t
      Linked p (statement at (form.while_loop e s)) = Linked (suc (suc (after_expr p e))) s
      Linked p (statement at (form.print_text text)) = TextThere p
      Linked p (statement at (form.atomic effects ss)) = AllLinked (suc p) ss
      Linked p (statement at (form.cobegin forking bs)) = ForkThere p (copy_lists bs)
      Linked p (statement at (form.foreach forking x start count s)) = SpreadThere (after_expr (after_expr p start) count) x
      Linked p (statement at (form.foreach_parts x (of_array a) count s)) =
          SpreadThere (suc (suc (suc (suc (suc (suc (after_expr (suc (suc (suc (after_expr p a)))) count))))))) (x + 4)
      Linked p (statement at (form.foreach_parts x (of_part y) count s)) =
          SpreadThere (suc (suc (suc (suc (suc (after_expr (suc (suc (suc (suc p)))) count)))))) (x + 4)
      Linked p s = Unit {0}

      pub AllLinked : ℕ → TypedStmts → Type 0
      AllLinked p no_stmts = Unit {0}
      AllLinked p (more_stmts s ss) = Linked p s × AllLinked (after_stmt p s) ss

    mutual
      pub linked : (k : Next) (p : ℕ) (s : TypedStmt) → Stands k p (stmt_piece k p s) → Linked p s
      linked k p (statement at (form.block ss)) h = all_linked k p ss h
      linked k p (statement at (form.choice e s)) h = let x = cut_here (expr_far k p e) h in linked _ _ s (skip _ _ x.1)
      linked k p (statement at (form.choice_else e s t)) h =
          let x = cut_here (expr_far k p e) h in let y = cut_here (stmt_far _ _ s) (skip _ _ x.1) in (linked _ _ s y.0, linked _ _ t (skip _ _ y.1))
      linked k p (statement at (form.while_loop e s)) h =
          let x = cut_here (expr_far k p e) h in let y = cut_here (stmt_far _ _ s) (skip _ _ (skip _ _ x.1)) in linked _ _ s y.0
      linked k p (statement at (form.print_text text)) h =
          let g = here_texted C _ h.laid in
          record { number = k.text; place = at; stands = (one_line b.lines p nothing g.1).0; is_there = slice_get_within C.texts k.text text g.0 }
      linked k p (statement at (form.atomic effects ss)) h =
          let x = cut_here (sited _ (next _ _ stop)) h in let y = cut_here (stmts_far _ _ ss) x.1 in all_linked _ _ ss y.0
      linked k p (statement at (form.cobegin forking bs)) h =
          let g = here_branched C _ _ h.laid in
          let r = of_branches k.body _ _ h.branches in
          record {
            number = k.site;
            place = at;
            forking = forking;
            bodies = numbers k.body bs;
            stands = (one_line b.lines p _ g.2).0;
            site_is = g.1;
            many = copies_many bs k.body;
            branches = all_branches bs k.site 0 k.body g.0 r;
          }
      linked k p (statement at (form.foreach forking x start count s)) h =
          let u = cut_here (expr_far k p start) h in let v = cut_here (expr_far _ _ count) u.1 in spread_there _ _ at forking x None s v.1
      linked k p (statement at (form.foreach_parts x (of_array a) count s)) h =
          let u = cut_here (expr_far k p a) h in
          let v = cut_here (expr_far _ _ count) (skip _ _ (skip _ _ (skip _ _ u.1))) in
          spread_there _ _ at Deterministic (x + 4) (Some x) s (skip _ _ (skip _ _ (skip _ _ (skip _ _ (skip _ _ (skip _ _ v.1))))))
      linked k p (statement at (form.foreach_parts x (of_part y) count s)) h =
          let v = cut_here (expr_far _ _ count) (skip _ _ (skip _ _ (skip _ _ (skip _ _ h)))) in
          spread_there _ _ at Deterministic (x + 4) (Some x) s (skip _ _ (skip _ _ (skip _ _ (skip _ _ (skip _ _ v.1)))))
      linked k p s h = tt

      pub all_linked : (k : Next) (p : ℕ) (ss : TypedStmts) → Stands k p (stmts_piece k p ss) → AllLinked p ss
      all_linked k p no_stmts h = tt
      all_linked k p (more_stmts s ss) h = let x = cut_here (stmt_far k p s) h in (linked k p s x.0, all_linked _ _ ss x.1)
