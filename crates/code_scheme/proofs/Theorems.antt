-- Code that is laid out by the scheme does what its program means, stands at one reply and is never stuck.
use Rattle.std.proofs.Common.{◌≡◌, inl, inr, ℕ, zero, suc, Bool, true, false, not, if◌then◌else◌, ◌==◌, List, [], ◌∷◌, reverse, refl, sym, ap, ◌∙◌, subst, arith, Option, Some, None}
use Rattle.lang_typed.specs.Plain.{PlainProgram}
use Rattle.lang_typed.specs.Resolved.{is_void, gives_value, StmtsFit, Resolved}
use Rattle.lang_typed.specs.Statements.{all_complete}
use Rattle.lang_meaning.specs.Values.{Value, Naming}
use Rattle.lang_meaning.specs.Actions.{Frame, Task, Work, Returned, Assigned, Action, Do, Rest, Answer, Reply, Next, Over, Unknown}
use Rattle.lang_meaning.specs.Core.{Result, Goes_on, Out, Done, Stopped, Lost}
use Rattle.lang_meaning.specs.Core.{Out as out}
use Rattle.lang_meaning.specs.Counts.{assigned}
use Rattle.lang_meaning.specs.Expressions.{Deeper, none}
use Rattle.lang_meaning.specs.Statements.{begun, of_stmts}
use Rattle.lang_meaning.specs.Asking.{meaning, most_ticks, Reported, ended, ending, replied, ask}
use Rattle.code_instrs.specs.Plain.{PlainCode, body_at}
use Rattle.code_instrs.specs.Machine.{State, Off, Start, Stand, Goes, Ticks, Makes, Waits, Ends, Stuck, Solos, answered, ticked, stood, step, solo, spot, begins_at, Solo}
use Rattle.code_scheme.specs.Scheme.{closes, after_stmts}
use Rattle.code_scheme.specs.Stands.{MemberEnds, EndsAt, StmtsAt, BodyIs, first_place, BeginsAt, LaidOut}
use Rattle.code_scheme.specs.Compiled.{Compiled, SameReply, Right}
use Rattle.code_scheme.proofs.Closing.{leaves_nothing, never_ends}
use Rattle.code_scheme.proofs.Does.{after, room, most_pos, Does, does_end}
use Rattle.code_scheme.proofs.Sim.{Sim, sim_step, sim_last}
use Rattle.code_scheme.proofs.Right.{gone}
use Rattle.code_scheme.proofs.Right as right
use Rattle.code_scheme.proofs.Statements.{right_stmts, right_none}

replied_is : {N M : Type 0} (k : Work) (o : Out N M (Result N M) (Reported N M)) → after o (λ r w. ending (ended k r) w.since w.to_come) ≡ replied k o
replied_is k (Done r w) = refl
replied_is k (out.Trapped t p w) = refl
replied_is k (Stopped n a) = refl
replied_is k (Lost w) = refl

module _ {N M : Type 0} (names : Naming N M) (C : PlainCode) (P : PlainProgram) (body_of : ℕ → ℕ) (laid : LaidOut C P body_of) (resolved : Resolved P) where
  right_member : (d : ℕ) (dp : Option (Deeper N M)) → right.Right_deeper names C P body_of laid resolved d dp →
      right.Right_body names C P body_of laid resolved d (of_stmts names P dp)
  right_member d dp dh n m im fs f l = go (closes m) refl (laid.members n m im).ends
    where
      go : (z : Bool) → closes m ≡ z → MemberEnds C (body_at C (body_of n)).lines (after_stmts 0 m.body) z →
          Sim names C P d (spot (body_of n) fs 0 [] f) (λ v g. gone (gives_value m) none fs) (λ v. gone (gives_value m) v fs) (of_stmts names P dp m.body f)
      go true q h =
          sim_last (λ v g. right.at_line names C P body_of laid resolved (body_of n) _ fs [] g h.1 ∙
          ap (λ z. Goes (gone (not z) none fs)) (sym (leaves_nothing (is_void m.result) (all_complete m.body) q)))
          (right_stmts names C P body_of laid resolved d (gives_value m) (body_of n) fs dp dh m.body (resolved.bodies n m im) 0 []
          (laid.members n m im).stmts f l)
      go false q h =
          right_none names C P body_of laid resolved d (gives_value m) (body_of n) fs dp dh m.body (resolved.bodies n m im)
          (never_ends (is_void m.result) (all_complete m.body) q (λ v. resolved.ends n m im (ap not v))) 0 [] (laid.members n m im).stmts _ f l

  right_meaning : (d : ℕ) → right.Right_body names C P body_of laid resolved d (meaning names P d)
  unfolding meaning
  right_meaning zero n m im fs f l = right_member zero None refl n m im fs f l
  right_meaning (suc d) n m im fs f l = right_member (suc d) (Some (meaning names P d)) (d, refl, right_meaning d) n m im fs f l

  -- a task of its own
  right_stretch : (d : ℕ) (dp : Option (Deeper N M)) → right.Right_deeper names C P body_of laid resolved d dp → (y : Bool) (j : ℕ) (w : Work) →
      StmtsFit P y w.stmts → BodyIs C (body_at C j) w → (f : Frame N M) → f.left ≡ d →
      Sim names C P d (spot j [] 0 [] f) (λ v g. Off (ended w (Goes_on v g))) (λ v. gone y v []) (of_stmts names P dp w.stmts (begun w.takes f))
  right_stretch d dp dh y j w ok is f l = first w.takes is.begins is.stmts is.ends
    where
      last : (p q : ℕ) (g : Frame N M) → g.left ≡ d → StmtsAt C (body_at C j).lines p w.stmts → (z : Bool) → w.is_root ≡ z →
          EndsAt C (body_at C j) (after_stmts p w.stmts) w z →
          Sim names C P d (spot j [] p [] g) (λ v h. Off (ended w (Goes_on v h))) (λ v. gone y v []) (of_stmts names P dp w.stmts g)
      last p q g m h true e (inl x) =
          sim_last (λ v g. right.at_line names C P body_of laid resolved j _ [] [] g x.1 ∙
          ap (λ z. Goes (Off (if z then Returned none else Assigned (assigned w.copies g.values)))) (sym e))
          (right_stmts names C P body_of laid resolved d y j [] dp dh w.stmts ok p [] h g m)
      last p q g m h true e (inr x) = right_none names C P body_of laid resolved d y j [] dp dh w.stmts ok x p [] h _ g m
      last p q g m h false e x =
          sim_last (λ v g. right.at_line names C P body_of laid resolved j _ [] [] g x.stands ∙
          (ap (λ z. Goes (Off (Assigned (assigned z g.values)))) x.gives ∙
          ap (λ z. Goes (Off (if z then Returned none else Assigned (assigned w.copies g.values)))) (sym e)))
          (right_stmts names C P body_of laid resolved d y j [] dp dh w.stmts ok p [] h g m)

      first : (takes : Option ℕ) → BeginsAt C (body_at C j).lines takes → StmtsAt C (body_at C j).lines (first_place takes) w.stmts →
          EndsAt C (body_at C j) (after_stmts (first_place takes) w.stmts) w w.is_root →
          Sim names C P d (spot j [] 0 [] f) (λ v g. Off (ended w (Goes_on v g))) (λ v. gone y v []) (of_stmts names P dp w.stmts (begun takes f))
      first None b h e = last 0 0 f l h w.is_root refl e
      first (Some x) b h e = sim_step (right.at_line names C P body_of laid resolved j 0 [] [] f b.stands) (last 1 0 (begun (Some x) f) l h w.is_root refl e)

  right_task : (d : ℕ) (y : Bool) (j : ℕ) (w : Work) → StmtsFit P y w.stmts → BodyIs C (body_at C j) w → (f : Frame N M) → f.left ≡ d →
      Sim names C P d (spot j [] 0 [] f) (λ v g. Off (ended w (Goes_on v g))) (λ v. gone y v []) (meaning names P d w.stmts (begun w.takes f))
  unfolding meaning
  right_task zero y j w ok is f l = right_stretch zero None refl y j w ok is f l
  right_task (suc d) y j w ok is f l = right_stretch (suc d) (Some (meaning names P d)) (d, refl, right_meaning d) y j w ok is f l

  pub code_is_right : (b : Start N M) (t : Task N M) → Compiled C P b t → (got : List (Answer N M)) → Right names C P b got (ask names P t got)
  unfolding ask
  code_is_right b t c got =
      let w : Reported N M = record { since = 0; made = 0; to_come = reverse got } in
      let s = right_task t.frame.left c.gives b.body t.work c.fits c.body t.frame refl in
      let d = s.does (suc (room w)) (λ r w. ending (ended t.work r) w.since w.to_come) (λ v g l. does_end (ended t.work (Goes_on v g)))
      (λ v. back (suc (room w)) c.gives v) in
      let r = d.from w most_pos (omega arith) in
      record {
        reply = r.reply;
        runs = record { fuel = r.fuel; stands = ap (λ f. solo names C r.fuel 0 0 (spot b.body [] 0 [] f) (reverse got)) c.frame ∙ r.stands };
        same = subst (λ x. SameReply C P x r.reply) (replied_is t.work _) r.same;
      }
    where
      back : (a : ℕ) (y : Bool) (v : Value N) → Does names C P a (gone y v []) (λ w. ending (Returned v) w.since w.to_come)
      back a true v = does_end (Returned v)
      back a false v = does_end (Returned v)

-- two runs that stand at something stand at the same
abbrev Same : {N M : Type 0} → Solos N M → Solos N M → Type 0
Same {N} {M} A B = (n m : ℕ) (s : State N M) (xs : List (Answer N M)) (r q : Reply N M (Start N M)) → A n m s xs ≡ Some r → B n m s xs ≡ Some q → r ≡ q

module _ {N M : Type 0} (names : Naming N M) where
  same_answered : (A B : Solos N M) → Same A B →
      (n m : ℕ) (a : Action N M (Start N M)) (k : Answer N M → State N M) (xs : List (Answer N M)) (r q : Reply N M (Start N M)) →
      answered A n m a k xs ≡ Some r → answered B n m a k xs ≡ Some q → r ≡ q
  same_answered A B h n m a k [] r q e f = cc
  same_answered A B h n m a k (x ∷ xs) r q e f = h 0 m (k x) xs r q e f

  same_ticked : (A B : Solos N M) → Same A B → (n m : ℕ) (s : State N M) (xs : List (Answer N M)) (r q : Reply N M (Start N M)) → ticked A n m s xs ≡ Some r →
      ticked B n m s xs ≡ Some q → r ≡ q
  same_ticked A B h n m s xs r q e f = go (suc n == most_ticks) e f
    where
      go : (t : Bool) → (if t then answered A (suc n) m (Do Rest) (λ x. s) xs else A (suc n) m s xs) ≡ Some r →
          (if t then answered B (suc n) m (Do Rest) (λ x. s) xs else B (suc n) m s xs) ≡ Some q → r ≡ q
      go true i j = same_answered A B h (suc n) m (Do Rest) (λ x. s) xs r q i j
      go false i j = h (suc n) m s xs r q i j

  same_stood : (A B : Solos N M) → Same A B → (n m : ℕ) (o : Stand N M) (xs : List (Answer N M)) (r q : Reply N M (Start N M)) →
      stood names A n m o xs ≡ Some r → stood names B n m o xs ≡ Some q → r ≡ q
  same_stood A B h n m (Goes s) xs r q e f = h n m s xs r q e f
  same_stood A B h n m (Ticks s) xs r q e f = same_ticked A B h n m s xs r q e f
  same_stood A B h n m (Makes k) xs r q e f = same_ticked A B h n (suc m) (k (names.made m)) xs r q e f
  same_stood A B h n m (Waits a k) xs r q e f = same_answered A B h n m a k xs r q e f
  same_stood A B h n m (Ends x) [] r q e f = cc
  same_stood A B h n m (Ends x) (y ∷ ys) r q e f = cc
  same_stood A B h n m Stuck xs r q e f = cc

  same_solo : (C : PlainCode) (a b : ℕ) → Same (λ n m s xs. solo names C a n m s xs) (λ n m s xs. solo names C b n m s xs)
  same_solo C zero b n m s xs r q e f = absurd (cc)
  same_solo C (suc a) zero n m s xs r q e f = absurd (cc)
  same_solo C (suc a) (suc b) n m s xs r q e f =
      same_stood (λ n m t ys. solo names C a n m t ys) (λ n m t ys. solo names C b n m t ys) (same_solo C a b) n m (step names C s) xs r q e f

  pub one_reply : (C : PlainCode) (b : Start N M) (got : List (Answer N M)) (r q : Reply N M (Start N M)) → Solo names C b got r → Solo names C b got q → r ≡ q
  one_reply C b got r q x y = same_solo C x.fuel y.fuel 0 0 (begins_at b) (reverse got) r q x.stands y.stands

something : {N M : Type 0} (C : PlainCode) (P : PlainProgram) (r : Reply N M (Task N M)) (q : Reply N M (Start N M)) → SameReply C P r q → q ≡ Unknown → ⊥
something C P (Next n a) q h e = let k = h.1 in cc
something C P Over q h e = cc
something C P Unknown q h e = h

pub never_stuck : {N M : Type 0} (names : Naming N M) (C : PlainCode) (P : PlainProgram) (body_of : ℕ → ℕ) → LaidOut C P body_of → Resolved P →
    (b : Start N M) (t : Task N M) → Compiled C P b t → (got : List (Answer N M)) → Solo names C b got Unknown → ⊥
never_stuck names C P body_of laid resolved b t c got stuck =
    let r = code_is_right names C P body_of laid resolved b t c got in
    something C P (ask names P t got) r.reply r.same (one_reply names C b got r.reply Unknown r.runs stuck)
