-- A declaration: what is read of its type is what is expected of a statement that begins with a name.
use Rattle.std.proofs.Common.{◌≡◌, ◌+◌, ◌-◌, ◌≤◌, ◌⊎◌, inl, inr, ◌∙◌, arith, List, [], ◌∷◌, ◌++◌, Bool, true, false, cond, Option, Some, refl, subst}
use Rattle.lang_base.specs.declared.refusal.Kind.{Kind}
use Rattle.syntax_tokens.specs.declared.token.Symbol.{Symbol}
use Rattle.syntax_tokens.specs.declared.terminal.Placed.{Placed}
use Rattle.syntax_tokens.specs.declared.terminal.Terminal.{Terminal}
use Rattle.syntax_tokens.specs.declared.terminal.Terminal.TheVariants as terminal
use Rattle.syntax_grammar.specs.Words.{is_assign, is_close_bracket, is_comma, is_greater, is_hash, is_less, is_name, is_open_bracket, is_semicolon}
use Rattle.syntax_grammar.specs.Expecting.{Part, Expected, one, part, choose, next_of, next_is}
use Rattle.syntax_grammar.specs.Limits.{Counts, Fits, more, more_if, past, inside, outside, Within, nothing, begins, passes, Stops, no_part, no_terminal, too_many, in_part, after_part, after_terminal}

-- reading and stopping in two parts
pub record Split (c : Counts) (x : Expected) (ys : List Expected) (before : List Placed) (e : Counts) (after : List Placed) : Type 0 where
  pub middle : Counts
  pub between : List Placed
  pub first : Within c (x ∷ []) before middle between
  pub rest : Within middle ys between e after

pub split : {c e : Counts} {x : Expected} {ys : List Expected} {before after : List Placed} → Within c (x ∷ ys) before e after → Split c x ys before e after
split (begins chosen w rest) = record { middle = _; between = _; first = begins chosen w nothing; rest = rest }
split (passes test fits w) = record { middle = _; between = _; first = passes test fits nothing; rest = w }

pub data SplitStops (c : Counts) (x : Expected) (ys : List Expected) (before : List Placed) (k : Kind) (here : List Placed) : Type 0 where
  in_first : Stops c (x ∷ []) before k here → SplitStops c x ys before k here
  in_rest : {d : Counts} {between : List Placed} → Within c (x ∷ []) before d between → Stops d ys between k here → SplitStops c x ys before k here

pub split_stops : {c : Counts} {x : Expected} {ys : List Expected} {before here : List Placed} {k : Kind} → Stops c (x ∷ ys) before k here → SplitStops c x ys before k here
split_stops (no_part none) = in_first (no_part none)
split_stops (no_terminal none) = in_first (no_terminal none)
split_stops (too_many test over) = in_first (too_many test over)
split_stops (in_part chosen s) = in_first (in_part chosen s)
split_stops (after_part chosen w s) = in_rest (begins chosen w nothing) s
split_stops (after_terminal test fits s) = in_rest (passes test fits nothing) s

pub append : {c d e : Counts} {xs ys : List Expected} {before between after : List Placed} → Within c xs before d between → Within d ys between e after → Within c (xs ++ ys) before e after
append nothing v = v
append (begins chosen w rest) v = begins chosen w (append rest v)
append (passes test fits w) v = passes test fits (append w v)

pub stops_append : {c : Counts} {xs : List Expected} (ys : List Expected) {before here : List Placed} {k : Kind} → Stops c xs before k here → Stops c (xs ++ ys) before k here
stops_append ys (no_part none) = no_part none
stops_append ys (no_terminal none) = no_terminal none
stops_append ys (too_many test over) = too_many test over
stops_append ys (in_part chosen s) = in_part chosen s
stops_append ys (after_part chosen w s) = after_part chosen w (stops_append ys s)
stops_append ys (after_terminal test fits s) = after_terminal test fits (stops_append ys s)

pub stops_later : {c d : Counts} {xs ys : List Expected} {before between here : List Placed} {k : Kind} → Within c xs before d between → Stops d ys between k here → Stops c (xs ++ ys) before k here
stops_later nothing s = s
stops_later (begins chosen w rest) s = after_part chosen w (stops_later rest s)
stops_later (passes test fits w) s = after_terminal test fits (stops_later w s)

-- a part that was read, by what it begins with
pub record Chosen (c : Counts) (n : Part) (ys : List Expected) (before : List Placed) (d : Counts) (after : List Placed) : Type 0 where
  pub last : Counts
  pub reads : Within (inside n (next_of before) c) ys before last after
  pub same : d ≡ outside n c last

pub chosen_reads : {c d : Counts} {n : Part} {ys : List Expected} {before after : List Placed} → Within c (part n ∷ []) before d after → choose n (next_of before) ≡ Some ys → Chosen c n ys before d after
chosen_reads {c = c} {n = n} {ys = ys} {before = before} {after = after} (begins {xs = xs} {d = last} chosen w nothing) is =
    let same : xs ≡ ys = cc (chosen, is) in
    record { last = last; reads = subst (λ (l : List Expected). Within (inside n (next_of before) c) l before last after) same w; same = refl }

pub chosen_stops : {c : Counts} {n : Part} {ys : List Expected} {before here : List Placed} {k : Kind} → Stops c (part n ∷ []) before k here → choose n (next_of before) ≡ Some ys →
    Stops (inside n (next_of before) c) ys before k here
chosen_stops (no_part none) is = cc (none, is)
chosen_stops {c = c} {n = n} {ys = ys} {before = before} {here = here} {k = k} (in_part {xs = xs} chosen s) is =
    let same : xs ≡ ys = cc (chosen, is) in subst (λ (l : List Expected). Stops (inside n (next_of before) c) l before k here) same s
chosen_stops (after_part chosen w s) is = elim s [ ]

-- tests that no bracket passes
abbrev pub NoBracket : (Terminal → Bool) → Type 0
NoBracket test = (t : Terminal) → test t ≡ true → (c : Counts) → past t c ≡ c

pub name_no_bracket : NoBracket is_name
name_no_bracket (terminal.Name n) is c = refl
name_no_bracket (terminal.Int n) is c = cc
name_no_bracket (terminal.Text text) is c = cc
name_no_bracket (terminal.Symbol s) is c = cc
name_no_bracket (terminal.Keyword k) is c = cc

no_bracket : (s : Symbol) (test : Terminal → Bool) → ((t : Terminal) → test t ≡ true → t ≡ terminal.Symbol s) → ((c : Counts) → past (terminal.Symbol s) c ≡ c) → NoBracket test
no_bracket s test only plain t is c = rw (only t is) (plain c)

less_only : (t : Terminal) → is_less t ≡ true → t ≡ terminal.Symbol Symbol.Less
less_only (terminal.Symbol Symbol.Less) is = refl
less_only _ is = cc

greater_only : (t : Terminal) → is_greater t ≡ true → t ≡ terminal.Symbol Symbol.Greater
greater_only (terminal.Symbol Symbol.Greater) is = refl
greater_only _ is = cc

comma_only : (t : Terminal) → is_comma t ≡ true → t ≡ terminal.Symbol Symbol.Comma
comma_only (terminal.Symbol Symbol.Comma) is = refl
comma_only _ is = cc

hash_only : (t : Terminal) → is_hash t ≡ true → t ≡ terminal.Symbol Symbol.Hash
hash_only (terminal.Symbol Symbol.Hash) is = refl
hash_only _ is = cc

pub assign_only : (t : Terminal) → is_assign t ≡ true → t ≡ terminal.Symbol Symbol.Assign
assign_only (terminal.Symbol Symbol.Assign) is = refl
assign_only _ is = cc

semicolon_only : (t : Terminal) → is_semicolon t ≡ true → t ≡ terminal.Symbol Symbol.Semicolon
semicolon_only (terminal.Symbol Symbol.Semicolon) is = refl
semicolon_only _ is = cc

open_only : (t : Terminal) → is_open_bracket t ≡ true → t ≡ terminal.Symbol Symbol.OpenBracket
open_only (terminal.Symbol Symbol.OpenBracket) is = refl
open_only _ is = cc

close_only : (t : Terminal) → is_close_bracket t ≡ true → t ≡ terminal.Symbol Symbol.CloseBracket
close_only (terminal.Symbol Symbol.CloseBracket) is = refl
close_only _ is = cc

-- the parts of a type that count as what stands around them
pub data IsInner : Part → Type 0 where
  args_if : IsInner Part.args_if
  args : IsInner Part.args
  more_paths : IsInner Part.more_paths
  suffixes : IsInner Part.suffixes
  brackets_after : IsInner Part.brackets_after
  region_if : IsInner Part.region_if
  index_if : IsInner Part.index_if

-- what is expected in a type: each bracket that opens closes again
pub data Flat : List Expected → Type 0 where
  done : Flat []
  token : {test : Terminal → Bool} {xs : List Expected} → NoBracket test → Flat xs → Flat (one test ∷ xs)
  brackets : {xs : List Expected} → Flat xs → Flat (one is_open_bracket ∷ one is_close_bracket ∷ xs)
  path : {xs : List Expected} → Flat xs → Flat (part Part.path ∷ xs)
  inner : {n : Part} {xs : List Expected} → IsInner n → Flat xs → Flat (part n ∷ xs)

flat_if : {xs ys : List Expected} (b : Bool) → Flat xs → Flat ys → Flat (cond b xs ys)
flat_if true f g = f
flat_if false f g = g

some_flat : {xs ys : List Expected} → Some ys ≡ Some xs → Flat ys → Flat xs
some_flat {xs} {ys} is f = let same : ys ≡ xs = cc is in subst Flat same f

less_plain : NoBracket is_less
less_plain = no_bracket Symbol.Less is_less less_only (λ c. refl)

greater_plain : NoBracket is_greater
greater_plain = no_bracket Symbol.Greater is_greater greater_only (λ c. refl)

comma_plain : NoBracket is_comma
comma_plain = no_bracket Symbol.Comma is_comma comma_only (λ c. refl)

hash_plain : NoBracket is_hash
hash_plain = no_bracket Symbol.Hash is_hash hash_only (λ c. refl)

pub assign_plain : NoBracket is_assign
assign_plain = no_bracket Symbol.Assign is_assign assign_only (λ c. refl)

pub semicolon_plain : NoBracket is_semicolon
semicolon_plain = no_bracket Symbol.Semicolon is_semicolon semicolon_only (λ c. refl)

flat_inner : {n : Part} {xs : List Expected} → IsInner n → (next : Option Placed) → choose n next ≡ Some xs → Flat xs
flat_inner IsInner.args_if next is = some_flat is (flat_if (next_is is_less next) (Flat.inner IsInner.args Flat.done) Flat.done)
flat_inner IsInner.args next is =
    some_flat is (Flat.token less_plain (Flat.path (Flat.inner IsInner.more_paths (Flat.token greater_plain Flat.done))))
flat_inner IsInner.more_paths next is =
    some_flat is (flat_if (next_is is_comma next) (Flat.token comma_plain (Flat.path (Flat.inner IsInner.more_paths Flat.done))) Flat.done)
flat_inner IsInner.suffixes next is =
    some_flat is (flat_if (next_is is_open_bracket next) (Flat.brackets (Flat.inner IsInner.brackets_after (Flat.inner IsInner.suffixes Flat.done))) Flat.done)
flat_inner IsInner.brackets_after next is = some_flat is (Flat.inner IsInner.region_if (Flat.inner IsInner.index_if Flat.done))
flat_inner IsInner.region_if next is =
    some_flat is (flat_if (next_is is_less next) (Flat.token less_plain (Flat.path (Flat.token greater_plain Flat.done))) Flat.done)
flat_inner IsInner.index_if next is =
    some_flat is (flat_if (next_is is_hash next) (Flat.token hash_plain (Flat.token name_no_bracket Flat.done)) Flat.done)

-- the level is the same again, and what was counted fits, or nothing was
pub record Kept (c d : Counts) : Type 0 where
  pub level : d.level ≡ c.level
  pub joined : (d.joined ≤ 32) ⊎ (d.joined ≡ c.joined)

kept_both : {c d e : Counts} → Kept c d → Kept d e → Kept c e
kept_both {c} {d} {e} p q = record {
  level = q.level ∙ p.level;
  joined = elim q.joined [ inl few ↦ inl few | inr same ↦ elim p.joined [ inl few ↦ inl (rw same few) | inr as_well ↦ inr (same ∙ as_well) ] ];
}

first_fits : {c d : Counts} {test : Terminal → Bool} {xs : List Expected} {before after : List Placed} → Within c (one test ∷ xs) before d after → Fits c
first_fits (passes test fits w) = fits

kept_more : {c d : Counts} {xs : List Expected} {before between : List Placed} (ys : List Expected) (b : Bool) → Some (cond b (one is_open_bracket ∷ ys) []) ≡ Some xs →
    Within (more_if b c) xs before d between → Kept (more_if b c) d → Kept c d
kept_more ys false is w k = k
kept_more {c} {d} {xs} {before} {between} ys true is w k =
    let same : xs ≡ one is_open_bracket ∷ ys = cc in
    let fits : Fits (more c) = first_fits (subst (λ (l : List Expected). Within (more c) l before d between) same w) in
    record { level = k.level; joined = elim k.joined [ inl few ↦ inl few | inr one_more ↦ inl (rw one_more fits.joined) ] }

kept_inside : {n : Part} {c d : Counts} {xs : List Expected} {before between : List Placed} → IsInner n → choose n (next_of before) ≡ Some xs →
    Within (inside n (next_of before) c) xs before d between → Kept (inside n (next_of before) c) d → Kept c d
kept_inside IsInner.args_if is w k = k
kept_inside IsInner.args is w k = k
kept_inside IsInner.more_paths is w k = k
kept_inside {before = before} IsInner.suffixes is w k = kept_more _ (next_is is_open_bracket (next_of before)) is w k
kept_inside IsInner.brackets_after is w k = k
kept_inside IsInner.region_if is w k = k
kept_inside IsInner.index_if is w k = k

outside_inner : {n : Part} → IsInner n → (c d : Counts) → outside n c d ≡ d
outside_inner IsInner.args_if c d = refl
outside_inner IsInner.args c d = refl
outside_inner IsInner.more_paths c d = refl
outside_inner IsInner.suffixes c d = refl
outside_inner IsInner.brackets_after c d = refl
outside_inner IsInner.region_if c d = refl
outside_inner IsInner.index_if c d = refl

closed_again : (s t : Terminal) (c : Counts) → is_open_bracket s ≡ true → is_close_bracket t ≡ true → past t (past s c) ≡ c
closed_again s t c opened closed =
    let level : (c.level + 1) - 1 ≡ c.level = omega arith in
    rw (open_only s opened, close_only t closed, level) refl

pub keeps : {c d : Counts} {xs : List Expected} {before after : List Placed} → Within c xs before d after → Flat xs → Kept c d
keeps nothing f = record { level = refl; joined = inr refl }
keeps {c = c} {d = d} (passes {next = next} test fits w) (Flat.token plain f) = subst (λ (b : Counts). Kept b d) (plain next.terminal test c) (keeps w f)
keeps {c = c} {d = d} (passes {next = one_next} test fits (passes {next = next} closed fits_too w)) (Flat.brackets f) =
    subst (λ (b : Counts). Kept b d) (closed_again one_next.terminal next.terminal c test closed) (keeps w f)
keeps (begins chosen w rest) (Flat.path f) = keeps rest f
keeps {c = c} {d = e} (begins {d = d} chosen w rest) (Flat.inner k f) =
    kept_both (kept_inside k chosen w (keeps w (flat_inner k _ chosen))) (subst (λ (b : Counts). Kept b e) (outside_inner k c d) (keeps rest f))
