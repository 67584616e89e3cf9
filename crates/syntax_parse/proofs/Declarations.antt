-- A declaration is read as a type and what follows it, however it begins.
use Rattle.std.proofs.Common.{◌≡◌, ◌≤◌, ◌⊎◌, inl, inr, ◌∙◌, arith, List, [], ◌∷◌, ◌++◌, Bool, true, false, cond, ◌||◌, Option, Some, refl, ap, subst, sym}
use Rattle.lang_base.specs.declared.place.Place.{Place}
use Rattle.lang_base.specs.declared.refusal.Kind.{Kind}
use Rattle.lang_base.specs.declared.refusal.Stop.{Stop}
use Rattle.syntax_tokens.specs.declared.token.Symbol.{Symbol}
use Rattle.syntax_tokens.specs.declared.token.Keyword.{Keyword}
use Rattle.syntax_tokens.specs.declared.terminal.Placed.{Placed}
use Rattle.syntax_tokens.specs.declared.terminal.Terminal.{Terminal}
use Rattle.syntax_tokens.specs.declared.terminal.Terminal.TheVariants as terminal
use Rattle.syntax_grammar.specs.Words.{is_assign, is_close_bracket, is_dot, is_final, is_name, is_open_bracket}
use Rattle.syntax_grammar.specs.Taking.{Next, TakesIf, TakesOne, place_of}
use Rattle.syntax_exprs.specs.Counted.{counts, Completes}
use Rattle.syntax_exprs.specs.Progress.{ReadsIf}
use Rattle.syntax_exprs.specs.declared.cursor.Cursor.{Cursor}
use Rattle.syntax_grammar.specs.Expecting.{Part, expr, Expected, one, part, choose, next_of, next_is, stmt_parts, base_parts}
use Rattle.syntax_grammar.specs.Expressions.{as_element}
use Rattle.syntax_grammar.specs.Limits.{Counts, Fits, more, more_if, anew, past, inside, Within, nothing, begins, passes, Stops, no_part, no_terminal, too_many, in_part, after_part, after_terminal}
use Rattle.syntax_exprs.specs.Targets.{begins_declaration, follows_a_type, opens_declaration, stmt_begins}
use Rattle.syntax_exprs.proofs.Coming.{comes_next}
use Rattle.syntax_parse.proofs.parts.StmtParts.{begins_refused}
use Rattle.syntax_exprs.proofs.Composed.{Refused, refused_first, seq, stops_after, stops_first}
use Rattle.syntax_parse.proofs.Declaring.{split, SplitStops, in_first, in_rest, split_stops, append, stops_append, stops_later, chosen_reads, chosen_stops, NoBracket, name_no_bracket, assign_plain, semicolon_plain, IsInner, Flat, keeps}

-- what may follow a type in a declaration
pub data Ends : List Expected → Type 0 where
  done : Ends []
  token : {test : Terminal → Bool} {xs : List Expected} → NoBracket test → Ends xs → Ends (one test ∷ xs)
  expression : {xs : List Expected} → Ends xs → Ends (part (expr 0) ∷ xs)
  valued : {xs : List Expected} → Ends xs → Ends (part Part.value ∷ xs)
  named : {xs : List Expected} → Ends xs → Ends (part Part.declared_name ∷ xs)

some_ends : {xs ys : List Expected} → Some ys ≡ Some xs → Ends ys → Ends xs
some_ends {xs} {ys} is f = let same : ys ≡ xs = cc is in subst Ends same f

ends_value : {xs : List Expected} (next : Option Placed) → choose Part.value next ≡ Some xs → Ends xs
ends_value next is = some_ends is (Ends.expression (Ends.token semicolon_plain Ends.done))

ends_named : {xs : List Expected} (next : Option Placed) → choose Part.declared_name next ≡ Some xs → Ends xs
ends_named next is = some_ends is (Ends.token name_no_bracket (Ends.token assign_plain (Ends.valued Ends.done)))

-- counts that go on alike where each expression counts anew
pub record Alike (c d : Counts) : Type 0 where
  pub level : d.level ≡ c.level
  pub first : c.joined ≤ 32
  pub second : d.joined ≤ 32

fits_alike : {c d : Counts} → Alike c d → Fits c → Fits d
fits_alike a fits = record { level = rw (a.level) fits.level; joined = a.second }

fits_back : {c d : Counts} → Alike c d → Fits d → Fits c
fits_back a fits = record { level = rw (← a.level) fits.level; joined = a.first }

past_alike : {c d : Counts} {test : Terminal → Bool} (t : Terminal) → NoBracket test → test t ≡ true → Alike c d → Alike (past t c) (past t d)
past_alike {c} {d} t plain is a = rw (plain t is c, plain t is d) a

anew_alike : {c d : Counts} → Alike c d → anew d ≡ anew c
anew_alike a = rw (a.level) refl

pub record Shifted (d : Counts) (xs : List Expected) (before : List Placed) (e : Counts) (after : List Placed) : Type 0 where
  pub last : Counts
  pub reads : Within d xs before last after
  pub alike : Alike e last

pub shift : {c d e : Counts} {xs : List Expected} {before after : List Placed} → Within c xs before e after → Ends xs → Alike c d → Shifted d xs before e after
shift nothing f a = record { last = _; reads = nothing; alike = a }
shift (passes {next = next} test fits w) (Ends.token plain f) a =
    let s = shift w f (past_alike next.terminal plain test a) in record { last = s.last; reads = passes test (fits_alike a fits) s.reads; alike = s.alike }
shift (begins {xs = xs} {before = before} {between = between} {d = last} chosen w rest) (Ends.expression f) a =
    let s = shift rest f a in
    record { last = s.last; reads = begins chosen (subst (λ (b : Counts). Within b xs before last between) (sym (anew_alike a)) w) s.reads; alike = s.alike }
shift (begins {before = before} chosen w rest) (Ends.valued f) a =
    let one = shift w (ends_value (next_of before) chosen) a in let s = shift rest f one.alike in record { last = s.last; reads = begins chosen one.reads s.reads; alike = s.alike }
shift (begins {before = before} chosen w rest) (Ends.named f) a =
    let one = shift w (ends_named (next_of before) chosen) a in let s = shift rest f one.alike in record { last = s.last; reads = begins chosen one.reads s.reads; alike = s.alike }

pub shift_stops : {c d : Counts} {xs : List Expected} {before here : List Placed} {k : Kind} → Stops c xs before k here → Ends xs → Alike c d → Stops d xs before k here
shift_stops (no_part none) f a = no_part none
shift_stops (no_terminal none) f a = no_terminal none
shift_stops (too_many test over) f a = too_many test (λ fits. over (fits_back a fits))
shift_stops (in_part {xs = xs} {before = before} {here = here} {k = k} chosen s) (Ends.expression f) a =
    in_part chosen (subst (λ (b : Counts). Stops b xs before k here) (sym (anew_alike a)) s)
shift_stops (in_part {before = before} chosen s) (Ends.valued f) a = in_part chosen (shift_stops s (ends_value (next_of before) chosen) a)
shift_stops (in_part {before = before} chosen s) (Ends.named f) a = in_part chosen (shift_stops s (ends_named (next_of before) chosen) a)
shift_stops (after_part {xs = xs} {before = before} {between = between} {d = last} chosen w s) (Ends.expression f) a =
    after_part chosen (subst (λ (b : Counts). Within b xs before last between) (sym (anew_alike a)) w) (shift_stops s f a)
shift_stops (after_part {before = before} chosen w s) (Ends.valued f) a =
    let one = shift w (ends_value (next_of before) chosen) a in after_part chosen one.reads (shift_stops s f one.alike)
shift_stops (after_part {before = before} chosen w s) (Ends.named f) a =
    let one = shift w (ends_named (next_of before) chosen) a in after_part chosen one.reads (shift_stops s f one.alike)
shift_stops (after_terminal {next = next} test fits s) (Ends.token plain f) a =
    after_terminal test (fits_alike a fits) (shift_stops s f (past_alike next.terminal plain test a))

-- what follows a name in a declaration, and what is expected there
pub data Follows (here : List Placed) : Type 0 where
  tail : choose Part.after_name (next_of here) ≡ Some (part Part.args_if ∷ part Part.suffixes ∷ part Part.declared_name ∷ []) →
      (next_is is_dot (next_of here) || next_is is_open_bracket (next_of here)) ≡ false → Follows here
  brackets : {next : Placed} {after : List Placed} → here ≡ next ∷ after → next.terminal ≡ terminal.Symbol Symbol.OpenBracket → next_is is_close_bracket (next_of after) ≡ true → Follows here

follows_on : (t : Terminal) (place : Place) (after : List Placed) → follows_a_type (record { terminal = t; place = place } ∷ after) ≡ true → Follows (record { terminal = t; place = place } ∷ after)
follows_on (terminal.Name n) place after is = Follows.tail refl refl
follows_on (terminal.Symbol Symbol.Less) place after is = Follows.tail refl refl
follows_on (terminal.Symbol Symbol.OpenBracket) place after is = Follows.brackets refl refl is
follows_on _ place after is = cc

pub follows : (here : List Placed) → follows_a_type here ≡ true → Follows here
follows [] is = cc
follows (next ∷ after) is = follows_on next.terminal next.place after is

abbrev tail_parts : List Expected
tail_parts = part Part.args_if ∷ part Part.suffixes ∷ []

-- what follows the name was read up to the declared one
record TailRead (c : Counts) (here : List Placed) (d : Counts) (between : List Placed) : Type 0 where
  reads : (e : Counts) (after : List Placed) → Within d (part Part.declared_name ∷ []) between e after → Within c (part Part.after_name ∷ []) here e after
  stops : (k : Kind) (at : List Placed) → Stops d (part Part.declared_name ∷ []) between k at → Stops c (part Part.after_name ∷ []) here k at

nothing_read : {c d : Counts} {before after : List Placed} → Within c [] before d after → (d ≡ c) × (after ≡ before)
nothing_read nothing = (refl, refl)

record Opened (c : Counts) (test : Terminal → Bool) (ys : List Expected) (next : Placed) (rest : List Placed) (d : Counts) (after : List Placed) : Type 0 where
  passed : test next.terminal ≡ true
  fits : Fits c
  reads : Within (past next.terminal c) ys rest d after

opened : {c d : Counts} {test : Terminal → Bool} {ys : List Expected} {next : Placed} {rest after : List Placed} → Within c (one test ∷ ys) (next ∷ rest) d after → Opened c test ys next rest d after
opened (passes test fits w) = record { passed = test; fits = fits; reads = w }

pub opened_stops : {c : Counts} {test : Terminal → Bool} {ys : List Expected} (zs : List Expected) {next : Placed} {rest at : List Placed} {k : Kind} →
    (Stops (past next.terminal c) ys rest k at → Stops (past next.terminal c) zs rest k at) → Stops c (one test ∷ ys) (next ∷ rest) k at → Stops c (one test ∷ zs) (next ∷ rest) k at
opened_stops zs f (no_terminal none) = no_terminal none
opened_stops zs f (too_many test over) = too_many test over
opened_stops zs f (after_terminal test fits s) = after_terminal test fits (f s)

-- in front of brackets
abbrev bracket_parts : List Expected
bracket_parts = one is_close_bracket ∷ part Part.brackets_after ∷ part Part.suffixes ∷ []

no_args : (next : Placed) → next.terminal ≡ terminal.Symbol Symbol.OpenBracket → choose Part.args_if (Some next) ≡ Some []
no_args next is = rw is refl

a_suffix : (next : Placed) → next.terminal ≡ terminal.Symbol Symbol.OpenBracket → choose Part.suffixes (Some next) ≡ Some (one is_open_bracket ∷ bracket_parts)
a_suffix next is = rw is refl

a_bracket : (next : Placed) → next.terminal ≡ terminal.Symbol Symbol.OpenBracket → choose Part.after_name (Some next) ≡ Some (one is_open_bracket ∷ part Part.after_bracket ∷ [])
a_bracket next is = rw is refl

one_more : (next : Placed) (c : Counts) → next.terminal ≡ terminal.Symbol Symbol.OpenBracket → inside Part.suffixes (Some next) c ≡ more c
one_more next c is = rw is refl

as_many : (next : Placed) (c : Counts) → next.terminal ≡ terminal.Symbol Symbol.OpenBracket → inside Part.after_name (Some next) c ≡ more c
as_many next c is = rw is refl

closes : (after : List Placed) → next_is is_close_bracket (next_of after) ≡ true → choose Part.after_bracket (next_of after) ≡ Some (bracket_parts ++ part Part.declared_name ∷ [])
closes after is = ap (λ b. Some (cond b (bracket_parts ++ part Part.declared_name ∷ []) (part (expr 0) ∷ one is_close_bracket ∷ part (Part.selected_then as_element) ∷ []))) is

suffixes_first : {c d : Counts} {next : Placed} {rest between : List Placed} → next.terminal ≡ terminal.Symbol Symbol.OpenBracket →
    Within c tail_parts (next ∷ rest) d between → Within c (part Part.suffixes ∷ []) (next ∷ rest) d between
suffixes_first {c} {d} {next} {rest} {between} is w =
    let s = split w in
    let a = chosen_reads s.first (no_args next is) in
    let none = nothing_read a.reads in
    let same : s.middle ≡ c = a.same ∙ none.0 in
    subst (λ (l : List Placed). Within c (part Part.suffixes ∷ []) l d between) none.1 (subst (λ (b : Counts). Within b (part Part.suffixes ∷ []) s.between d between) same s.rest)

bracket_read : {c d : Counts} {next : Placed} {rest between : List Placed} → next.terminal ≡ terminal.Symbol Symbol.OpenBracket →
    Within c tail_parts (next ∷ rest) d between → Opened (more c) is_open_bracket bracket_parts next rest d between
bracket_read {c} {d} {next} {rest} {between} is w =
    let b = chosen_reads (suffixes_first is w) (a_suffix next is) in
    let at : Within (more c) (one is_open_bracket ∷ bracket_parts) (next ∷ rest) b.last between =
    subst (λ (k : Counts). Within k (one is_open_bracket ∷ bracket_parts) (next ∷ rest) b.last between) (one_more next c is) b.reads in
    opened (subst (λ (k : Counts). Within (more c) (one is_open_bracket ∷ bracket_parts) (next ∷ rest) k between) (sym b.same) at)

bracket_tail : {c d : Counts} {next : Placed} {rest between : List Placed} → next.terminal ≡ terminal.Symbol Symbol.OpenBracket → next_is is_close_bracket (next_of rest) ≡ true →
    Within c tail_parts (next ∷ rest) d between → TailRead c (next ∷ rest) d between
bracket_tail {c} {d} {next} {rest} {between} is closed w =
    let o = bracket_read is w in
    let counted = as_many next c is in
    record {
      reads = λ e after v.
          begins (a_bracket next is)
          (subst (λ (k : Counts). Within k (one is_open_bracket ∷ part Part.after_bracket ∷ []) (next ∷ rest) e after) (sym counted) (passes o.passed o.fits (begins (closes rest closed) (append o.reads v) nothing)))
          nothing;
      stops = λ k at s.
          in_part (a_bracket next is)
          (subst (λ (b : Counts). Stops b (one is_open_bracket ∷ part Part.after_bracket ∷ []) (next ∷ rest) k at) (sym counted) (after_terminal o.passed o.fits (in_part (closes rest closed) (stops_later o.reads s))));
    }

bracket_stops : {c : Counts} {next : Placed} {rest at : List Placed} {k : Kind} → next.terminal ≡ terminal.Symbol Symbol.OpenBracket → next_is is_close_bracket (next_of rest) ≡ true →
    Stops c (part Part.suffixes ∷ []) (next ∷ rest) k at → Stops c (part Part.after_name ∷ []) (next ∷ rest) k at
bracket_stops {c} {next} {rest} {at} {k} is closed s =
    let inner : Stops (more c) (one is_open_bracket ∷ bracket_parts) (next ∷ rest) k at =
    subst (λ (b : Counts). Stops b (one is_open_bracket ∷ bracket_parts) (next ∷ rest) k at) (one_more next c is) (chosen_stops s (a_suffix next is)) in
    let outer : Stops (more c) (one is_open_bracket ∷ part Part.after_bracket ∷ []) (next ∷ rest) k at =
    opened_stops (part Part.after_bracket ∷ []) (λ t. in_part (closes rest closed) (stops_append (part Part.declared_name ∷ []) t)) inner in
    in_part (a_bracket next is) (subst (λ (b : Counts). Stops b (one is_open_bracket ∷ part Part.after_bracket ∷ []) (next ∷ rest) k at) (sym (as_many next c is)) outer)

bracket_tail_stops : {c : Counts} {next : Placed} {rest at : List Placed} {k : Kind} → next.terminal ≡ terminal.Symbol Symbol.OpenBracket → next_is is_close_bracket (next_of rest) ≡ true →
    SplitStops c (part Part.args_if) (part Part.suffixes ∷ []) (next ∷ rest) k at → Stops c (part Part.after_name ∷ []) (next ∷ rest) k at
bracket_tail_stops {next = next} is closed (in_first s) = elim (chosen_stops s (no_args next is)) [ ]
bracket_tail_stops {c} {next} {rest} {at} {k} is closed (in_rest {d = d} {between = between} w s) =
    let a = chosen_reads w (no_args next is) in
    let none = nothing_read a.reads in
    let there : Stops c (part Part.suffixes ∷ []) (next ∷ rest) k at =
    subst (λ (l : List Placed). Stops c (part Part.suffixes ∷ []) l k at) none.1 (subst (λ (b : Counts). Stops b (part Part.suffixes ∷ []) between k at) (a.same ∙ none.0) s) in
    bracket_stops is closed there

tail_read : {c d : Counts} {here between : List Placed} → Follows here → Within c tail_parts here d between → TailRead c here d between
tail_read {c} {d} {here} {between} (Follows.tail chosen none) w = record {
  reads = λ e after v.
      begins chosen (subst (λ b. Within (more_if b c) (tail_parts ++ part Part.declared_name ∷ []) here e after) (sym none) (append w v)) nothing;
  stops = λ k at s. in_part chosen (subst (λ b. Stops (more_if b c) (tail_parts ++ part Part.declared_name ∷ []) here k at) (sym none) (stops_later w s));
}
tail_read {c} {d} {here} {between} (Follows.brackets is opened closed) w =
    subst (λ (l : List Placed). TailRead c l d between) (sym is) (bracket_tail opened closed (subst (λ (l : List Placed). Within c tail_parts l d between) is w))

tail_stops : {c : Counts} {here at : List Placed} {k : Kind} → Follows here → Stops c tail_parts here k at → Stops c (part Part.after_name ∷ []) here k at
tail_stops {c} {here} {at} {k} (Follows.tail chosen none) s =
    in_part chosen (subst (λ b. Stops (more_if b c) (tail_parts ++ part Part.declared_name ∷ []) here k at) (sym none) (stops_append (part Part.declared_name ∷ []) s))
tail_stops {c} {here} {at} {k} (Follows.brackets is opened closed) s =
    subst (λ (l : List Placed). Stops c (part Part.after_name ∷ []) l k at) (sym is) (bracket_tail_stops opened closed (split_stops (subst (λ (l : List Placed). Stops c tail_parts l k at) is s)))

-- a type was read that begins a declaration
pub record Begun (c : Counts) (before between : List Placed) : Type 0 where
  pub reads : (e : Counts) (after : List Placed) → Within c (part Part.declared_name ∷ []) between e after → Completes c (stmt_begins before) before after
  pub stops : (k : Kind) (at : List Placed) → Stops c (part Part.declared_name ∷ []) between k at → Stops c (stmt_begins before) before k at

pub begins_name : (t : Terminal) → is_name t ≡ true → stmt_parts t ≡ one is_name ∷ part Part.after_name ∷ []
begins_name (terminal.Name n) is = refl
begins_name (terminal.Int n) is = cc
begins_name (terminal.Text text) is = cc
begins_name (terminal.Symbol s) is = cc
begins_name (terminal.Keyword k) is = cc

base_name : (t : Terminal) → is_name t ≡ true → base_parts t ≡ one is_name ∷ part Part.args_if ∷ []
base_name (terminal.Name n) is = refl
base_name (terminal.Int n) is = cc
base_name (terminal.Text text) is = cc
base_name (terminal.Symbol s) is = cc
base_name (terminal.Keyword k) is = cc

still_anew : (c : Counts) → c.joined ≡ 0 → anew c ≡ c
still_anew c is = let zero : record { level = c.level; joined = 0 } ≡ record { level = c.level; joined = c.joined } = rw is refl in zero

record Named (c : Counts) (next : Placed) (rest : List Placed) (between : List Placed) : Type 0 where
  fits : Fits c
  last : Counts
  reads : Within c tail_parts rest last between

after_the_name : {c d : Counts} {ys : List Expected} {next : Placed} {rest after : List Placed} → is_name next.terminal ≡ true → Within c (one is_name ∷ ys) (next ∷ rest) d after → Fits c × Within c ys rest d after
after_the_name {c} {d} {ys} {next} {rest} {after} is (passes test fits w) = (fits, subst (λ (b : Counts). Within b ys rest d after) (name_no_bracket next.terminal is c) w)

base_of : (next : Placed) → is_name next.terminal ≡ true → choose Part.base (Some next) ≡ Some (one is_name ∷ part Part.args_if ∷ [])
base_of next is = ap Some (base_name next.terminal is)

type_named : {c d : Counts} {next : Placed} {rest between : List Placed} → is_name next.terminal ≡ true → c.joined ≡ 0 → Within c (part Part.type ∷ []) (next ∷ rest) d between → Named c next rest between
type_named {c} {d} {next} {rest} {between} is zero w =
    let t = chosen_reads w refl in
    let s = split (subst (λ (b : Counts). Within b (part Part.base ∷ part Part.suffixes ∷ []) (next ∷ rest) t.last between) (still_anew c zero) t.reads) in
    let b = chosen_reads s.first (base_of next is) in
    let n = after_the_name is b.reads in
    record { fits = n.0; last = t.last; reads = seq n.1 (subst (λ (k : Counts). Within k (part Part.suffixes ∷ []) s.between t.last between) b.same s.rest) }

named_alike : {c d : Counts} {before after : List Placed} → c.joined ≡ 0 → Within c tail_parts before d after → Alike c d
named_alike {c} {d} zero w =
    let k = keeps w (Flat.inner IsInner.args_if (Flat.inner IsInner.suffixes Flat.done)) in
    record { level = k.level; first = rw zero (omega arith); second = elim k.joined [ inl few ↦ few | inr same ↦ rw (same, zero) (omega arith) ] }

begun_name : {c d : Counts} {next : Placed} {rest between : List Placed} → is_name next.terminal ≡ true → Follows rest → c.joined ≡ 0 → Within c (part Part.type ∷ []) (next ∷ rest) d between →
    Begun c (next ∷ rest) between
begun_name {c} {d} {next} {rest} {between} is f zero w =
    let n = type_named is zero w in
    let tail = tail_read f n.reads in
    let alike = named_alike zero n.reads in
    let begin = sym (begins_name next.terminal is) in
    let same = sym (name_no_bracket next.terminal is c) in
    record {
      reads = λ e after v.
          let moved = shift v (Ends.named Ends.done) alike in
          let left = subst (λ (b : Counts). Within b (part Part.after_name ∷ []) rest moved.last after) same (tail.reads _ _ moved.reads) in
          record { last = moved.last; reads = subst (λ (xs : List Expected). Within c xs (next ∷ rest) moved.last after) begin (passes is n.fits left) };
      stops = λ k at s.
          let left = subst (λ (b : Counts). Stops b (part Part.after_name ∷ []) rest k at) same (tail.stops _ _ (shift_stops s (Ends.named Ends.done) alike)) in
          subst (λ (xs : List Expected). Stops c xs (next ∷ rest) k at) begin (after_terminal is n.fits left);
    }

name_stops : {c : Counts} {next : Placed} {rest at : List Placed} {k : Kind} → is_name next.terminal ≡ true → (Stops c tail_parts rest k at → Stops c (part Part.after_name ∷ []) rest k at) →
    SplitStops c (part Part.base) (part Part.suffixes ∷ []) (next ∷ rest) k at → Stops c (one is_name ∷ part Part.after_name ∷ []) (next ∷ rest) k at
name_stops {c} {next} {rest} {at} {k} is f (in_first s) =
    let same = name_no_bracket next.terminal is c in
    opened_stops (part Part.after_name ∷ [])
    (λ t. subst (λ (b : Counts). Stops b (part Part.after_name ∷ []) rest k at) (sym same) (f (stops_first (part Part.suffixes ∷ []) (subst (λ (b : Counts). Stops b (part Part.args_if ∷ []) rest k at) same t))))
    (chosen_stops s (base_of next is))
name_stops {c} {next} {rest} {at} {k} is f (in_rest {d = d} {between = between} w s) =
    let b = chosen_reads w (base_of next is) in
    let n = after_the_name is b.reads in
    let left = f (stops_after n.1 (subst (λ (b : Counts). Stops b (part Part.suffixes ∷ []) between k at) b.same s)) in
    after_terminal is n.0 (subst (λ (b : Counts). Stops b (part Part.after_name ∷ []) rest k at) (sym (name_no_bracket next.terminal is c)) left)

stopped_name : {c : Counts} {next : Placed} {rest at : List Placed} {k : Kind} → is_name next.terminal ≡ true → Follows rest → c.joined ≡ 0 → Stops c (part Part.type ∷ []) (next ∷ rest) k at →
    Stops c (stmt_begins (next ∷ rest)) (next ∷ rest) k at
stopped_name {c} {next} {rest} {at} {k} is f zero s =
    let inner = subst (λ (b : Counts). Stops b (part Part.base ∷ part Part.suffixes ∷ []) (next ∷ rest) k at) (still_anew c zero) (chosen_stops s refl) in
    subst (λ (xs : List Expected). Stops c xs (next ∷ rest) k at) (sym (begins_name next.terminal is)) (name_stops is (λ t. tail_stops f t) (split_stops inner))

-- a declaration begins as its type does, or with a name
opens_how : (t : Terminal) (after : List Placed) → opens_declaration t after ≡ true → (t ≡ terminal.Keyword Keyword.Final → ⊥) →
    (stmt_parts t ≡ part Part.type ∷ part Part.declared_name ∷ []) ⊎ ((is_name t ≡ true) × (follows_a_type after ≡ true))
opens_how (terminal.Keyword Keyword.Int) after is none = inl refl
opens_how (terminal.Keyword Keyword.Boolean) after is none = inl refl
opens_how (terminal.Keyword Keyword.Final) after is none = absurd (none refl)
opens_how (terminal.Name n) after is none = inr (refl, is)
opens_how _ after is none = cc

type_same : {c d : Counts} {before after : List Placed} → Within c (part Part.type ∷ []) before d after → d ≡ c
type_same (begins chosen w nothing) = refl

begun_type : {c d : Counts} {xs : List Expected} {before between : List Placed} → xs ≡ part Part.type ∷ part Part.declared_name ∷ [] → stmt_begins before ≡ xs → Within c (part Part.type ∷ []) before d between →
    Begun c before between
begun_type {c} {d} {xs} {before} {between} is start w =
    let begin = sym (start ∙ is) in
    let typed = subst (λ (b : Counts). Within c (part Part.type ∷ []) before b between) (type_same w) w in
    record {
      reads = λ e after v. record { last = e; reads = subst (λ (l : List Expected). Within c l before e after) begin (seq typed v) };
      stops = λ k at s. subst (λ (l : List Expected). Stops c l before k at) begin (stops_after typed s);
    }

pub begun : {c d : Counts} (before : List Placed) {between : List Placed} → begins_declaration before ≡ true → c.joined ≡ 0 → (Next (terminal.Keyword Keyword.Final) before → ⊥) →
    Within c (part Part.type ∷ []) before d between → Begun c before between
begun [] is zero none w = cc
begun (next ∷ after) is zero none w =
    elim (opens_how next.terminal after is (λ same. none (comes_next same))) [ inl typed ↦ begun_type typed refl w | inr name ↦ begun_name name.0 (follows after name.1) zero w ]

pub stopped : {c : Counts} (before : List Placed) {at : List Placed} {k : Kind} → begins_declaration before ≡ true → c.joined ≡ 0 → (Next (terminal.Keyword Keyword.Final) before → ⊥) →
    Stops c (part Part.type ∷ []) before k at → Stops c (stmt_begins before) before k at
stopped [] is zero none s = cc
stopped {c} (next ∷ after) {at} {k} is zero none s = elim (opens_how next.terminal after is (λ same. none (comes_next same))) [
  | inl typed ↦ subst (λ (l : List Expected). Stops c l (next ∷ after) k at) (sym typed) (stops_first (part Part.declared_name ∷ []) s)
  | inr name ↦ stopped_name name.0 (follows after name.1) zero s
]

-- a declaration with or without its `final`
pub record Started (found : Bool) (old new : Cursor) : Type 0 where
  pub is : begins_declaration old.rest.now ≡ true
  pub zero : old.joined ≡ 0
  pub takes : TakesIf (terminal.Keyword Keyword.Final) found old.rest.now new.rest.now
  pub moves : ReadsIf found old new
  pub reads : found ≡ true → Within (counts old) (one is_final ∷ []) old.rest.now (counts new) new.rest.now

abbrev final_parts : List Expected
final_parts = one is_final ∷ part Part.type ∷ part Part.declared_name ∷ []

final_plain : NoBracket is_final
final_plain (terminal.Keyword Keyword.Final) is c = refl
final_plain _ is c = cc

final_same : {c d : Counts} {before after : List Placed} → Within c (one is_final ∷ []) before d after → d ≡ c
final_same {c} (passes {next = next} test fits nothing) = final_plain next.terminal test c

begins_final : {before after : List Placed} → TakesOne (terminal.Keyword Keyword.Final) before after → stmt_begins before ≡ final_parts
begins_final takes = rw (takes.takes.first) refl

pub begun_here : (old new typed : Cursor) (found : Bool) → Started found old new → Within (counts new) (part Part.type ∷ []) new.rest.now (counts typed) typed.rest.now →
    Begun (counts old) old.rest.now typed.rest.now
begun_here old new typed false s w = let at = rw (s.moves) at w in begun old.rest.now s.is s.zero s.takes.0 at
begun_here old new typed true s w =
    let f = s.reads refl in
    let c = counts old in
    let final : Within c (one is_final ∷ []) old.rest.now c new.rest.now = subst (λ (b : Counts). Within c (one is_final ∷ []) old.rest.now b new.rest.now) (final_same f) f in
    let from : Within c (part Part.type ∷ []) new.rest.now (counts typed) typed.rest.now =
    subst (λ (b : Counts). Within b (part Part.type ∷ []) new.rest.now (counts typed) typed.rest.now) (final_same f) w in
    let type : Within c (part Part.type ∷ []) new.rest.now c typed.rest.now = subst (λ (b : Counts). Within c (part Part.type ∷ []) new.rest.now b typed.rest.now) (type_same from) from in
    let begin = sym (begins_final s.takes) in
    record {
      reads = λ e after v. record { last = e; reads = subst (λ (l : List Expected). Within c l old.rest.now e after) begin (seq final (seq type v)) };
      stops = λ k at t. subst (λ (l : List Expected). Stops c l old.rest.now k at) begin (stops_after final (stops_after type t));
    }

counts_here : (old new typed : Cursor) (found : Bool) → Started found old new → Within (counts new) (part Part.type ∷ []) new.rest.now (counts typed) typed.rest.now → counts typed ≡ counts old
counts_here old new typed false s w = type_same w ∙ ap counts s.moves
counts_here old new typed true s w = type_same w ∙ final_same (s.reads refl)

end_here : (old new : Cursor) (found : Bool) → ReadsIf found old new → new.end ≡ old.end
end_here old new false moves = ap (λ (c : Cursor). c.end) moves
end_here old new true moves = moves.end

abbrev pub declared_parts : List Expected
declared_parts = one is_name ∷ one is_assign ∷ part Part.value ∷ []

pub declared_reads : {e : Counts} {after : List Placed} (old new typed : Cursor) (found : Bool) → Started found old new →
    Within (counts new) (part Part.type ∷ []) new.rest.now (counts typed) typed.rest.now → Within (counts typed) declared_parts typed.rest.now e after →
    Completes (counts old) (stmt_begins old.rest.now) old.rest.now after
declared_reads {e} {after} old new typed found s w v =
    let b = begun_here old new typed found s w in
    let named : Within (counts typed) (part Part.declared_name ∷ []) typed.rest.now e after = begins refl v nothing in
    b.reads e after (subst (λ (k : Counts). Within k (part Part.declared_name ∷ []) typed.rest.now e after) (counts_here old new typed found s w) named)

pub declared_refused : (old new typed : Cursor) (found : Bool) (stop : Stop) → Started found old new →
    Within (counts new) (part Part.type ∷ []) new.rest.now (counts typed) typed.rest.now → typed.end ≡ new.end →
    Refused (counts typed) declared_parts typed.rest.now typed.end stop → Refused (counts old) (stmt_begins old.rest.now) old.rest.now old.end stop
declared_refused old new typed found (Stop.Refused refusal) s w end r =
    let b = begun_here old new typed found s w in
    let named : Stops (counts typed) (part Part.declared_name ∷ []) typed.rest.now refusal.kind r.here = in_part refl r.stops in
    record {
      here = r.here;
      stops = b.stops _ _ (subst (λ (k : Counts). Stops k (part Part.declared_name ∷ []) typed.rest.now refusal.kind r.here) (counts_here old new typed found s w) named);
      place = subst (λ (p : Place). refusal.place ≡ place_of r.here p) (end ∙ end_here old new found s.moves) r.place;
    }
declared_refused old new typed found Stop.NoMemory s w end r = r

pub type_refused : (old new : Cursor) (found : Bool) (stop : Stop) → Started found old new → Refused (counts new) (part Part.type ∷ []) new.rest.now new.end stop →
    Refused (counts old) (stmt_begins old.rest.now) old.rest.now old.end stop
type_refused old new found Stop.NoMemory s r = r
type_refused old new false (Stop.Refused refusal) s r =
    let at = rw (s.moves) at r in
    record { here = at.here; stops = stopped old.rest.now s.is s.zero s.takes.0 at.stops; place = at.place }
type_refused old new true (Stop.Refused refusal) s r =
    let typed = stops_first (part Part.declared_name ∷ []) r.stops in
    record {
      here = r.here;
      stops = subst (λ (l : List Expected). Stops (counts old) l old.rest.now refusal.kind r.here) (sym (begins_final s.takes)) (stops_after (s.reads refl) typed);
      place = subst (λ (p : Place). refusal.place ≡ place_of r.here p) (s.moves.end) r.place;
    }

pub final_refused : (old : Cursor) (stop : Stop) → Next (terminal.Keyword Keyword.Final) old.rest.now → Refused (counts old) (one is_final ∷ []) old.rest.now old.end stop →
    Refused (counts old) (stmt_begins old.rest.now) old.rest.now old.end stop
final_refused old stop n r =
    begins_refused (terminal.Keyword Keyword.Final) (counts old) old.rest.now old.end stop n (refused_first (counts old) _ (part Part.type ∷ part Part.declared_name ∷ []) old.rest.now old.end stop r)
