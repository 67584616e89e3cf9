-- How bodies follow each other, and how the queue of branches empties.
use Rattle.std.proofs.Common.{◌≡◌, ◌∙◌, ℕ, zero, suc, ◌+◌, ◌<◌, ◌≤◌, List, [], ◌∷◌, ◌++◌, map, length, get_or, drop, add-one, refl, sym, ap, ap₂, subst, arith, true, false, Option, Some, None, option_map, slice_get, append_assoc, length-append}
use Rattle.std.proofs.lemmas.List.{append-nil, length-map, drop_all}
use Rattle.std.proofs.lemmas.Option.{slice_get-map, slice_get-get_or}
use Rattle.lang_base.specs.declared.place.Place.{Place}
use Rattle.lang_typed.specs.declared.stmt.Stmt.{Stmt}
use Rattle.lang_typed.specs.Plain.{PlainMember, plain_stmt}
use Rattle.code_instrs.specs.declared.code.Body.{Body}
use Rattle.code_instrs.specs.declared.instr.Instr.{Instr}
use Rattle.code_instrs.specs.declared.instr.Instr.TheVariants as i
use Rattle.code_instrs.specs.Plain.{of_member, PlainBody, Site, plain_body, lines_of}
use Rattle.code_scheme.specs.Pieces.{Branch, Piece, Next, past, nothing, line, beside, then_next}
use Rattle.code_scheme.specs.Scheme.{closes, stmt_piece, stmts_piece}
use Rattle.code_scheme.specs.Whole.{weight, weight_all, no_place, place_of, branch_piece_of, branch_piece, closing, member_piece, body_of, Output, no_output, followed_by, then_output, generate, in_member, member_output}
use Rattle.code_scheme.proofs.Whole.{need, need_on, branch_needs, member_needs}
use Rattle.code_compile.specs.declared.line.Line.{Line}
use Rattle.code_compile.specs.declared.pending.Pending.{Pending}
use Rattle.code_compile.specs.Emitted.{Emitted, next_of, Emits, plain_line, plain_pending, member_begun, without_lines}
use Rattle.code_compile.specs.Bodies.{body_from, output_of, next_member, Finished, BranchDone}
use Rattle.code_compile.proofs.Emits.{same_next, next_after, beside_nothing, emits_as, emits_line}
use Rattle.code_compile.proofs.Forms.{plain_statement}
use Rattle.code_compile.proofs.Statements.{then_stmt, then_stmts}

-- lines taken apart
pub record Split (instrs : List Instr) (places : List Place) (rest all : List Line) : Type 0 where
  pub even : length instrs ≡ length places
  pub so_far : lines_of instrs places ++ map plain_line rest ≡ map plain_line all

lines_on : (instrs : List Instr) (places : List Place) (x : Instr) (at : Place) → length instrs ≡ length places →
    lines_of (instrs ++ x ∷ []) (places ++ at ∷ []) ≡ lines_of instrs places ++ record { instr = x; place = at } ∷ []
lines_on [] [] x at e = refl
lines_on [] (p ∷ places) x at e = absurd (omega arith)
lines_on (y ∷ instrs) [] x at e = absurd (omega arith)
lines_on (y ∷ instrs) (p ∷ places) x at e = ap (λ ls. record { instr = y; place = p } ∷ ls) (lines_on instrs places x at (omega arith))

pub split_one : (instrs more : List Instr) (places others : List Place) (l : Line) (now rest all : List Line) → now ≡ l ∷ rest →
    more ≡ instrs ++ l.instr ∷ [] → others ≡ places ++ l.place ∷ [] → Split instrs places now all → Split more others rest all
split_one instrs more places others l now rest all is e f s = record {
  even =
      let a = length-append instrs (l.instr ∷ []) in let b = length-append places (l.place ∷ []) in let c = ap length e in let d = ap length f in let h = s.even in
      omega arith;
  so_far =
      ap₂ (λ x y. lines_of x y ++ map plain_line rest) e f ∙ ap (λ ls. ls ++ map plain_line rest) (lines_on instrs places l.instr l.place s.even)
      ∙ append_assoc (lines_of instrs places) (plain_line l ∷ []) (map plain_line rest) ∙ ap (λ z. lines_of instrs places ++ map plain_line z) (sym is) ∙ s.so_far;
}

pub split_all : (instrs : List Instr) (places : List Place) (rest all : List Line) → rest ≡ [] → Split instrs places rest all → lines_of instrs places ≡ map plain_line all
split_all instrs places rest all is s =
    sym (append-nil (lines_of instrs places)) ∙ ap (λ z. lines_of instrs places ++ map plain_line z) (sym is) ∙ s.so_far

-- a piece at the beginning of a body
begins_at_first : {s t : Emitted} (f : Next → ℕ → Piece) (g : Next → Piece) → s.piece.lines ≡ [] → f (next_of s) 0 ≡ g (next_of s) → Emits s f t → Emits s (λ k p. g k) t
begins_at_first {s} {t} f g empty same h = emits_as (λ k p. g k) (ap (λ n. f (next_of s) n) (ap length empty) ∙ same) h

pub member_closed : (s s1 s2 : Emitted) (m : PlainMember) → s.piece.lines ≡ [] → closes m ≡ true → Emits s (λ k p. stmts_piece k p m.body) s1 →
    Emits s1 (λ k p. line i.Leave no_place nothing) s2 → Emits s (λ k p. member_piece k m) s2
member_closed s s1 s2 m empty is h j =
    begins_at_first _ (λ k. member_piece k m) empty
    (ap (λ z. then_next (next_of s) (stmts_piece (next_of s) 0 m.body) (λ k. closing z)) (sym is)) (then_stmts m.body h j)

none_after : (t : Emitted) → Emits t (λ k p. nothing) t
none_after t = record { is = ap (λ a. record t { piece = a }) (sym (beside_nothing t.piece)) }

pub member_open : (s s1 : Emitted) (m : PlainMember) → s.piece.lines ≡ [] → closes m ≡ false → Emits s (λ k p. stmts_piece k p m.body) s1 →
    Emits s (λ k p. member_piece k m) s1
member_open s s1 m empty is h =
    begins_at_first _ (λ k. member_piece k m) empty
    (ap (λ z. then_next (next_of s) (stmts_piece (next_of s) 0 m.body) (λ k. closing z)) (sym is)) (then_stmts m.body h (none_after s1))

pub whole_branch : (s s1 s2 : Emitted) (b : Stmt) (takes : Option ℕ) → s.piece.lines ≡ [] → takes ≡ None → Emits s (λ k p. stmt_piece k p (plain_stmt b)) s1 →
    Emits s1 (λ k p. line i.End b.place nothing) s2 → Emits s (λ k p. branch_piece_of k (place_of (plain_stmt b)) (plain_stmt b) takes) s2
whole_branch s s1 s2 b takes empty is h j =
    begins_at_first _ (λ k. branch_piece_of k (place_of (plain_stmt b)) (plain_stmt b) takes) empty
    (ap (λ at. then_next (next_of s) (stmt_piece (next_of s) 0 (plain_stmt b)) (λ k. line i.End at nothing)) (sym (ap place_of (plain_statement b)))
    ∙ ap (λ t. branch_piece_of (next_of s) (place_of (plain_stmt b)) (plain_stmt b) t) (sym is)) (then_stmt (plain_stmt b) h j)

pub part_branch : (s s1 s2 s3 : Emitted) (b : Stmt) (takes : Option ℕ) (x : ℕ) → s.piece.lines ≡ [] → takes ≡ Some x → Emits s (λ k p. line (i.Part x) b.place nothing) s1 →
    Emits s1 (λ k p. stmt_piece k p (plain_stmt b)) s2 → Emits s2 (λ k p. line i.End b.place nothing) s3 →
    Emits s (λ k p. branch_piece_of k (place_of (plain_stmt b)) (plain_stmt b) takes) s3
part_branch s s1 s2 s3 b takes x empty is l h j =
    begins_at_first _ (λ k. branch_piece_of k (place_of (plain_stmt b)) (plain_stmt b) takes) empty
    (ap (λ at. line (i.Part x) at (then_next (next_of s) (stmt_piece (next_of s) 1 (plain_stmt b)) (λ k. line i.End at nothing))) (sym (ap place_of (plain_statement b)))
    ∙ ap (λ t. branch_piece_of (next_of s) (place_of (plain_stmt b)) (plain_stmt b) t) (sym is)) (emits_line (i.Part x) b.place l (then_stmt (plain_stmt b) h j))

lines_beside : (a b : Piece) → (beside a b).lines ≡ a.lines ++ b.lines
unfolding beside
lines_beside a b = refl

pub fresh_lines : (s t : Emitted) (a : Next → Piece) → s.piece.lines ≡ [] → Emits s (λ k p. a k) t → t.piece.lines ≡ (a (next_of s)).lines
fresh_lines s t a empty h =
    ap (λ (z : Emitted). z.piece.lines) h.is ∙ lines_beside s.piece (a (next_of s)) ∙ ap (λ ls. ls ++ (a (next_of s)).lines) empty

pub waiting_at : (all view : List Pending) (at : ℕ) (b : Pending) → view ≡ all → at < length (map plain_pending all) → b ≡ get_or view at b →
    slice_get (map plain_pending all) at ≡ Some (plain_pending b)
waiting_at all view at b same there is =
    slice_get-map plain_pending all at
    ∙ ap (option_map plain_pending) (slice_get-get_or all at b (subst (λ n. at < n) (length-map all plain_pending) there) ∙ ap Some (ap (λ xs. get_or xs at b) (sym same) ∙ sym is))

-- a member whose first branches are done: what is emitted, and what is still to be generated, are the member's whole output
pub record Underway (s : Emitted) (bodies : List Body) (m : PlainMember) (at : ℕ) (t : Emitted) (made : List Body) : Type 0 where
  pub empty : t.piece.lines ≡ []
  pub rest :
      then_output (output_of t made) (generate (need (drop at t.piece.branches)) m (next_of t) (drop at t.piece.branches))
      ≡ then_output (output_of s bodies) (member_output (next_member s bodies) m)

abbrev output : List PlainBody → List Site → List (List ℕ) → Output
output bodies sites texts = record { bodies = bodies; sites = sites; texts = texts }

pub same_output : (a b : Output) → a.bodies ≡ b.bodies → a.sites ≡ b.sites → a.texts ≡ b.texts → a ≡ b
same_output a b bodies sites texts =
    ap (λ x. output x a.sites a.texts) bodies ∙ ap (λ x. output b.bodies x a.texts) sites ∙ ap (λ x. output b.bodies b.sites x) texts

-- a body moves from what follows to what is done
one_done : (s : Emitted) (made done : List Body) (b : PlainBody) (a : Piece) (rest : Output) → map plain_body done ≡ map plain_body made ++ b ∷ [] →
    then_output (output_of (without_lines (record s { piece = beside s.piece a })) done) rest ≡ then_output (output_of s made) (followed_by b a rest)
unfolding beside
one_done s made done b a rest is =
    same_output _ _ (ap (λ bs. bs ++ rest.bodies) is ∙ append_assoc (map plain_body made) (b ∷ []) rest.bodies) (append_assoc s.piece.sites a.sites rest.sites)
    (append_assoc s.piece.texts a.texts rest.texts)

queue_after : (s : Emitted) (a : Piece) → (without_lines (record s { piece = beside s.piece a })).piece.branches ≡ s.piece.branches ++ a.branches
unfolding beside
queue_after s a = refl

drop_on : {A : Type 0} (xs ys : List A) (n : ℕ) → n ≤ length xs → drop n (xs ++ ys) ≡ drop n xs ++ ys
drop_on xs ys zero h = refl
drop_on [] ys (suc n) h = absurd (omega arith)
drop_on (x ∷ xs) ys (suc n) h = drop_on xs ys n (omega arith)

found : {A : Type 0} (xs : List A) (n : ℕ) (x : A) → slice_get xs n ≡ Some x → (drop n xs ≡ x ∷ drop (suc n) xs) × (suc n ≤ length xs)
found [] n x is = absurd (cc is)
found (y ∷ ys) zero x is = (ap (λ z. z ∷ ys) (cc is), omega arith)
found (y ∷ ys) (suc n) x is = let r = found ys n x is in let below = r.1 in (r.0, omega arith)

found_at : {A : Type 0} (xs : List A) (n : ℕ) (x : A) → slice_get xs n ≡ Some x → (drop n xs ≡ x ∷ drop (n + 1) xs) × (n + 1 ≤ length xs)
found_at xs n x is = let r = found xs n x is in let below = r.1 in (r.0 ∙ ap (λ k. x ∷ drop k xs) (sym (add-one n)), omega arith)

-- the next branch of the queue is done
pub branch_done : (s : Emitted) (bodies : List Body) (m : PlainMember) (at : ℕ) (t : Emitted) (made : List Body) (u : Emitted) (done : List Body) →
    BranchDone t made m at u done → Underway s bodies m at t made → Underway s bodies m (at + 1) u done
branch_done s bodies m at t made u done d w =
    let k : Next = next_of t in
    let a : Piece = branch_piece k d.branch in
    let here = found_at t.piece.branches at d.branch d.there in
    let v : Emitted = without_lines (record t { piece = beside t.piece a }) in
    let later : List Branch = drop (at + 1) t.piece.branches in
    let queue : drop (at + 1) v.piece.branches ≡ later ++ a.branches = ap (drop (at + 1)) (queue_after t a) ∙ drop_on t.piece.branches a.branches (at + 1) here.1 in
    let many : need (later ++ a.branches) ≡ weight d.branch.stmt + need later =
    (let x = need_on later a.branches in let y = (branch_needs k (place_of d.branch.stmt) d.branch.stmt d.branch.takes).is in omega arith) in
    let next : next_of v ≡ past k a = next_after t a in
    let first_needs : suc (weight d.branch.stmt + need later) ≡ need (d.branch ∷ later) = omega arith in
    let now : then_output (output_of v done) (generate (need (drop (at + 1) v.piece.branches)) m (next_of v) (drop (at + 1) v.piece.branches))
    ≡ then_output (output_of s bodies) (member_output (next_member s bodies) m) =
    ap (λ q. then_output (output_of v done) (generate (need q) m (next_of v) q)) queue
    ∙ ap₂ (λ n z. then_output (output_of v done) (generate n m z (later ++ a.branches))) many next
    ∙ one_done t made done (body_of d.branch.title m a) a (generate (weight d.branch.stmt + need later) m (past k a) (later ++ a.branches)) d.body
    ∙ ap (λ n. then_output (output_of t made) (generate n m k (d.branch ∷ later))) first_needs
    ∙ ap (λ q. then_output (output_of t made) (generate (need q) m k q)) (sym here.0) ∙ w.rest in
    record {
      empty = ap (λ (z : Emitted). z.piece.lines) d.emitted;
      rest = subst (λ (z : Emitted). then_output (output_of z done) (generate (need (drop (at + 1) z.piece.branches)) m (next_of z) (drop (at + 1) z.piece.branches))
          ≡ then_output (output_of s bodies) (member_output (next_member s bodies) m)) (sym d.emitted) now;
    }

pub fewer : (bodies : List Body) (m : PlainMember) (at : ℕ) (t : Emitted) (u : Emitted) (done : List Body) → BranchDone t bodies m at u done →
    need (drop (at + 1) u.piece.branches) < need (drop at t.piece.branches)
fewer bodies m at t u done d =
    let k : Next = next_of t in
    let a : Piece = branch_piece k d.branch in
    let here = found_at t.piece.branches at d.branch d.there in
    let later : List Branch = drop (at + 1) t.piece.branches in
    let queue : drop (at + 1) u.piece.branches ≡ later ++ a.branches =
    ap (λ (z : Emitted). drop (at + 1) z.piece.branches) d.emitted ∙ ap (drop (at + 1)) (queue_after t a) ∙ drop_on t.piece.branches a.branches (at + 1) here.1 in
    let x = need_on later a.branches in let y = (branch_needs k (place_of d.branch.stmt) d.branch.stmt d.branch.takes).is in
    let left : need (drop (at + 1) u.piece.branches) ≡ need (later ++ a.branches) = ap need queue in
    let before : need (drop at t.piece.branches) ≡ suc (weight d.branch.stmt) + need later = ap need here.0 in omega arith

-- the member's own body is done
pub member_done : (s : Emitted) (bodies : List Body) (m : PlainMember) (s0 t u : Emitted) (made : List Body) → s.piece.lines ≡ [] → s0 ≡ member_begun s (length bodies) →
    Emits s0 (λ k p. member_piece k m) t → u ≡ without_lines t → map plain_body made ≡ map plain_body bodies ++ body_from of_member t.piece.lines m ∷ [] →
    Underway s bodies m 0 u made
member_done s bodies m s0 t u made empty begun h taken pushed =
    let k : Next = in_member (next_member s bodies) in
    let e : Emitted = member_begun s (length bodies) in
    let start : next_of e ≡ k = same_next _ _ refl refl (omega arith) in
    let a : Piece = member_piece k m in
    let j : Emits e (λ z p. member_piece z m) t = subst (λ (z : Emitted). Emits z (λ z p. member_piece z m) t) begun h in
    let v : Emitted = without_lines (record e { piece = beside e.piece a }) in
    let there : t ≡ record e { piece = beside e.piece a } = j.is ∙ ap (λ z. record e { piece = beside e.piece (member_piece z m) }) start in
    let is : u ≡ v = taken ∙ ap without_lines there in
    let lines : t.piece.lines ≡ a.lines = fresh_lines e t (λ z. member_piece z m) empty j ∙ ap (λ z. (member_piece z m).lines) start in
    let queue : drop 0 v.piece.branches ≡ a.branches = queue_after e a in
    let next : next_of v ≡ past k a = next_after e a ∙ ap (λ z. past z a) start in
    let w : need a.branches ≡ weight_all m.body = (member_needs k m.body (closes m)).is in
    let body : map plain_body made ≡ map plain_body bodies ++ body_of of_member m a ∷ [] =
    pushed ∙ ap (λ ls. map plain_body bodies ++ body_from of_member ls m ∷ []) lines in
    let now : then_output (output_of v made) (generate (need (drop 0 v.piece.branches)) m (next_of v) (drop 0 v.piece.branches))
    ≡ then_output (output_of s bodies) (member_output (next_member s bodies) m) =
    ap (λ q. then_output (output_of v made) (generate (need q) m (next_of v) q)) queue
    ∙ ap₂ (λ n z. then_output (output_of v made) (generate n m z a.branches)) w next
    ∙ one_done e bodies made (body_of of_member m a) a (generate (weight_all m.body) m (past k a) a.branches) body in
    record {
      empty = ap (λ (z : Emitted). z.piece.lines) is;
      rest = subst (λ (z : Emitted). then_output (output_of z made) (generate (need (drop 0 z.piece.branches)) m (next_of z) (drop 0 z.piece.branches))
          ≡ then_output (output_of s bodies) (member_output (next_member s bodies) m)) (sym is) now;
    }

pub nothing_left : (a : Output) → then_output a no_output ≡ a
nothing_left a = same_output _ _ (append-nil a.bodies) (append-nil a.sites) (append-nil a.texts)

-- no branch waits any more
pub all_done : (s : Emitted) (bodies : List Body) (m : PlainMember) (at : ℕ) (t : Emitted) (made : List Body) → drop at t.piece.branches ≡ [] → Underway s bodies m at t made →
    Finished s bodies (λ k. member_output k m) t made
all_done s bodies m at t made is w =
    sym (nothing_left (output_of t made)) ∙ ap (λ q. then_output (output_of t made) (generate (need q) m (next_of t) q)) (sym is) ∙ w.rest

pub none_waits : (all : List Pending) (at n : ℕ) → n ≡ length all → n ≤ at → drop at (map plain_pending all) ≡ []
none_waits all at n is none = drop_all at (map plain_pending all) (let l = length-map all plain_pending in omega arith)
