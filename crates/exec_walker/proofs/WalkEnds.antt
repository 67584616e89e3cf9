-- Where a body, a branch or a piece of the meaning ends, what waits goes on as the walk says.
use Rattle.std.proofs.Common.{◌≡◌, ℕ, zero, suc, List, [], ◌∷◌, ◌++◌, refl, ap, ◌∙◌, sym, append_assoc, append-nil, Option, Some, None}
use Rattle.lang_base.specs.declared.place.Place.{Place}
use Rattle.lang_base.specs.declared.value.Trap.{Trap}
use Rattle.lang_typed.specs.Plain.{PlainProgram, TypedStmts}
use Rattle.lang_meaning.specs.Values.{Value}
use Rattle.lang_meaning.specs.Actions.{Frame, Work, Task, Ending, Returned, Assigned, Trapped}
use Rattle.lang_meaning.specs.Asking.{meaning}
use Rattle.lang_meaning.specs.Core.{Result, Goes_on, Returns, Done, Stopped, Lost, bind, run}
use Rattle.lang_meaning.specs.Core.{Out as out}
use Rattle.lang_meaning.specs.Counts.{Brought, Back, Trap_of_branch, brought}
use Rattle.lang_meaning.specs.Elision.{LocalRegion, in_order, Store, at_end, one_step, sequential}
use Rattle.lang_meaning.specs.Expressions.{none}
use Rattle.lang_meaning.specs.Outcomes.{joined_or, first_trap, all_locals, trap_of, locals_of}
use Rattle.lang_meaning.specs.Statements.{joined, of_stmts, begun}
use Rattle.exec_walker.specs.Agenda.{goes_on, deeper_at}
use Rattle.exec_walker.specs.Walk.{Level, Construct, Waiting, for_value, for_object, for_branch, first_or, noted, fallen, earlier, shortened, begins, falls, rejoins, branches, ends, lands}
use Rattle.exec_walker.proofs.Runs.{proceeds, bind_assoc, bind_same}
use Rattle.exec_walker.proofs.Residual.{Ran, items_run, rest_run, joins_run, whole, state_run}

pub meaning_is : (P : PlainProgram) (d : ℕ) (ss : TypedStmts) (f : Frame ℕ LocalRegion) → meaning in_order P d ss f ≡ of_stmts in_order P (deeper_at P d) ss f
unfolding meaning
meaning_is P zero ss f = refl
meaning_is P (suc d) ss f = refl

trap_first : (o : Option (Trap × Place)) (x : Ending ℕ) (r : Option (Trap × Place)) → first_or o (trap_of x r) ≡ first_or (first_or o (trap_of x None)) r
trap_first (Some fell) x r = refl
trap_first None (Trapped t p) r = refl
trap_first None (Returned v) r = refl
trap_first None (Assigned ls) r = refl

no_other : (o : Option (Trap × Place)) → first_or o None ≡ o
no_other None = refl
no_other (Some fell) = refl

-- what a branch ends with doesn't depend on the value of its last statement
pub end_same : (k : Work) (o : Ran) → at_end k (bind o (λ r u. proceeds (λ v g x. Done (Goes_on none g) x) r u)) ≡ at_end k o
end_same k (Done (Goes_on v f) w) = refl
end_same k (Done (Returns v) w) = refl
end_same k (out.Trapped t p w) = refl
end_same k (Stopped n a) = refl
end_same k (Lost w) = refl

shortened_ends : (k : Work) (o : Ran) → at_end (shortened k) o ≡ at_end k o
shortened_ends k (Done (Goes_on v f) w) = refl
shortened_ends k (Done (Returns v) w) = refl
shortened_ends k (out.Trapped t p w) = refl
shortened_ends k (Stopped n a) = refl
shortened_ends k (Lost w) = refl

module _ (P : PlainProgram) where
  -- the join, by what was noted
  abbrev joining : Construct → Option (Trap × Place) → List (ℕ × Value ℕ) → Store → Ran
  joining c fell back w =
      bind (run sequential (joined c.copies c.outer.frame (brought {M = LocalRegion} (joined_or fell back))) w)
      (λ r u. proceeds (λ v g x. items_run P c.outer.left c.outer.items c.outer.operands g x) r u)

  note : (c : Construct) (x : Ending ℕ) (xs : List (Ending ℕ)) (w : Store) → joins_run P c (x ∷ xs) w ≡ joins_run P (noted c x) xs w
  note c x xs w =
      ap (λ fell. joining c fell (c.back ++ (locals_of x ++ all_locals xs)) w) (trap_first c.fell x (first_trap xs))
      ∙ ap (λ back. joining c (first_or (first_or c.fell (trap_of x None)) (first_trap xs)) back w) (sym (append_assoc c.back (locals_of x) (all_locals xs)))

  note_run : (c : Construct) (x : Ending ℕ) (ts : List (Task ℕ LocalRegion)) (ws : List Waiting) (w : Store) →
      whole P ws (bind (rest_run P c.left ts w) (λ xs v. joins_run P c (x ∷ xs) (one_step v)))
      ≡ whole P ws (bind (rest_run P c.left ts w) (λ xs v. joins_run P (noted c x) xs (one_step v)))
  note_run c x ts ws w = ap (whole P ws) (bind_same (rest_run P c.left ts w) _ _ (λ xs v. note c x xs (one_step v)))

  begins_kept : (c : Construct) (t : Task ℕ LocalRegion) (rest : List (Task ℕ LocalRegion)) (ws : List Waiting) (w : Store) →
      whole P ws (bind (rest_run P c.left (t ∷ rest) w) (λ xs v. joins_run P c xs (one_step v))) ≡ state_run P (begins c t rest ws w)
  begins_kept c t rest ws w =
      ap (whole P ws)
      (bind_assoc (at_end t.work (run sequential (meaning in_order P c.left t.work.stmts (begun t.work.takes t.frame)) (one_step w)))
      (λ x v. bind (rest_run P c.left rest v) (λ xs u. Done (x ∷ xs) u)) (λ xs v. joins_run P c xs (one_step v))
      ∙ bind_same (at_end t.work (run sequential (meaning in_order P c.left t.work.stmts (begun t.work.takes t.frame)) (one_step w)))
      (λ x v. bind (bind (rest_run P c.left rest v) (λ xs u. Done (x ∷ xs) u)) (λ xs v. joins_run P c xs (one_step v)))
      (λ x v. bind (rest_run P c.left rest v) (λ xs u. joins_run P c (x ∷ xs) (one_step u)))
      (λ x v. bind_assoc (rest_run P c.left rest v) (λ xs u. Done (x ∷ xs) u) (λ xs v. joins_run P c xs (one_step v)))
      ∙ ap (λ o. bind o (λ x v. bind (rest_run P c.left rest v) (λ xs u. joins_run P c (x ∷ xs) (one_step u))))
      (ap (λ p. at_end t.work (run sequential p (one_step w))) (meaning_is P c.left t.work.stmts (begun t.work.takes t.frame))
      ∙ sym (end_same t.work (run sequential (of_stmts in_order P (deeper_at P c.left) t.work.stmts (begun t.work.takes t.frame)) (one_step w)))
      ∙ sym (shortened_ends t.work (items_run P c.left (goes_on t.work.stmts ∷ []) [] (begun t.work.takes t.frame) (one_step w)))))

  trapped_join : (c : Construct) (o : Option (Trap × Place)) (t : Trap) (p : Place) (back : List (ℕ × Value ℕ)) (w : Store) →
      joining c (first_or o (Some (t, p))) back w ≡ out.Trapped (earlier o (t, p)).0 (earlier o (t, p)).1 w
  trapped_join c None t p back w = refl
  trapped_join c (Some fell) t p back w = refl

  pub fell_kept : (ws : List Waiting) (t : Trap) (p : Place) (w : Store) → whole P ws (out.Trapped t p w) ≡ state_run P (falls ws t p w)
  fell_kept [] t p w = refl
  fell_kept (for_value g ∷ ws) t p w = fell_kept ws t p w
  fell_kept (for_object n g ∷ ws) t p w = fell_kept ws t p w
  fell_kept (for_branch c k [] ∷ ws) t p w =
      ap (whole P ws) (trapped_join c c.fell t p (c.back ++ []) (one_step (fallen t p w)))
      ∙ fell_kept ws (earlier c.fell (t, p)).0 (earlier c.fell (t, p)).1 (one_step (fallen t p w))
  fell_kept (for_branch c k (b ∷ rest) ∷ ws) t p w =
      note_run c (Trapped t p) (b ∷ rest) ws (fallen t p w) ∙ begins_kept (noted c (Trapped t p)) b rest ws (fallen t p w)

  rejoins_kept : (c : Construct) (ws : List Waiting) (b : Brought ℕ) (w : Store) →
      whole P ws (bind (run sequential (joined c.copies c.outer.frame b) w) (λ r u. proceeds (λ v g x. items_run P c.outer.left c.outer.items c.outer.operands g x) r u))
      ≡ state_run P (rejoins c ws b w)
  rejoins_kept c ws (Back ls) w = refl
  rejoins_kept c ws (Trap_of_branch t p) w = fell_kept ws t p w

  pub branches_kept : (c : Construct) (ts : List (Task ℕ LocalRegion)) (ws : List Waiting) (w : Store) →
      whole P ws (bind (rest_run P c.left ts w) (λ xs v. joins_run P c xs (one_step v))) ≡ state_run P (branches c ts ws w)
  branches_kept c [] ws w =
      ap (λ fell. whole P ws (joining c fell (c.back ++ []) (one_step w))) (no_other c.fell)
      ∙ ap (λ back. whole P ws (joining c c.fell back (one_step w))) (append-nil c.back)
      ∙ rejoins_kept c ws (brought {M = LocalRegion} (joined_or c.fell c.back)) (one_step w)
  branches_kept c (t ∷ rest) ws w = begins_kept c t rest ws w

  pub ends_kept : (ws : List Waiting) (r : Result ℕ LocalRegion) (w : Store) → whole P ws (Done r w) ≡ state_run P (ends ws r w)
  ends_kept [] r w = refl
  ends_kept (for_value g ∷ ws) r w = refl
  ends_kept (for_object n g ∷ ws) r w = refl
  ends_kept (for_branch c k rest ∷ ws) r w = note_run c _ rest ws w ∙ branches_kept (noted c _) rest ws w

  pub lost_kept : (ws : List Waiting) (w : Store) → whole P ws (Lost w) ≡ Lost w
  lost_kept [] w = refl
  lost_kept (for_value g ∷ ws) w = lost_kept ws w
  lost_kept (for_object n g ∷ ws) w = lost_kept ws w
  lost_kept (for_branch c k rest ∷ ws) w = lost_kept ws w

  stopped_kept : (ws : List Waiting) (n : ℕ) (a : _) → whole P ws (Stopped n a) ≡ Stopped n a
  stopped_kept [] n a = refl
  stopped_kept (for_value g ∷ ws) n a = stopped_kept ws n a
  stopped_kept (for_object m g ∷ ws) n a = stopped_kept ws n a
  stopped_kept (for_branch c k rest ∷ ws) n a = stopped_kept ws n a

  pub lands_kept : (g : Level) (push : Value ℕ → List (Value ℕ)) (ws : List Waiting) (o : Ran) →
      whole P ws (bind o (λ r u. proceeds (λ v f x. items_run P g.left g.items (push v) f x) r u)) ≡ state_run P (lands g push ws o)
  lands_kept g push ws (Done (Goes_on v f) w) = refl
  lands_kept g push ws (Done (Returns v) w) = ends_kept ws (Returns v) w
  lands_kept g push ws (out.Trapped t p w) = fell_kept ws t p w
  lands_kept g push ws (Stopped n a) = stopped_kept ws n a
  lands_kept g push ws (Lost w) = lost_kept ws w
