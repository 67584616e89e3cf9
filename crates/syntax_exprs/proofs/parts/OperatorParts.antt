-- Operators and their operands, one after another.
use Rattle.std.proofs.Common.{◌≡◌, ◌∙◌, ℕ, suc, ◌+◌, ◌≤◌, List, [], ◌∷◌, Bool, true, false, cond, ◌&&◌, leb, Option, Some, None, refl, sym, ap, subst, arith, add-one}
use Rattle.std.proofs.lemmas.Bool.{le-leb, leb-true}
use Rattle.lang_base.specs.declared.op.BinaryOp.TheVariants as binary_op
use Rattle.lang_base.specs.declared.op.LogicOp.TheVariants as logic_op
use Rattle.lang_base.specs.Refused.{IfRefused}
use Rattle.lang_base.specs.declared.place.Place.{Place}
use Rattle.lang_base.specs.declared.refusal.Stop.{Stop}
use Rattle.syntax_tokens.specs.declared.token.Symbol.{Symbol}
use Rattle.syntax_tokens.specs.declared.terminal.Placed.{Placed}
use Rattle.syntax_tokens.specs.declared.terminal.Terminal.{Terminal}
use Rattle.syntax_tokens.specs.declared.terminal.Terminal.TheVariants as terminal
use Rattle.syntax_tree.specs.declared.expr.InfixOp.{InfixOp}
use Rattle.syntax_tree.specs.declared.expr.InfixOp.TheVariants.{Logic, Binary}
use Rattle.syntax_grammar.specs.Words.{is_any, op_at}
use Rattle.syntax_grammar.specs.Taking.{Next, TakesNext}
use Rattle.syntax_grammar.specs.Expressions.{symbol_of, level_of, left_level}
use Rattle.syntax_grammar.specs.Expecting.{Part, expr, Expected, one, part, next_of, op_of, climb_parts}
use Rattle.syntax_grammar.specs.Limits.{Counts, Fits, past, more, more_joined, Within, Refuses}
use Rattle.syntax_exprs.specs.Counted.{Halts}
use Rattle.syntax_exprs.specs.Onward.{Onward}
use Rattle.syntax_exprs.proofs.Composed.{read_part, refused_part}
use Rattle.syntax_exprs.proofs.Coming.{read_any}
use Rattle.syntax_grammar.proofs.Ops.{level_low, left_low, op_of_symbol}
use Rattle.syntax_exprs.proofs.Onwards.{over, step, enter, ends, refused_on}
use Rattle.syntax_exprs.proofs.Taken.{next-takes}

-- an expression is unary ones with operators between them, which are counted anew
pub expr_reads : {level joined outer last : ℕ} {before after : List Placed} →
    Within (record { level = level; joined = 0 }) (part Part.unary ∷ part (Part.climb 0 6) ∷ []) before (record { level = last; joined = joined }) after → last ≡ level →
    Within (record { level = level; joined = outer }) (part (expr 0) ∷ []) before (record { level = last; joined = outer }) after
expr_reads {level} {joined} {outer} {last} {before} {after} w same =
    rw same (read_part (record { level = level; joined = outer }) (record { level = last; joined = joined }) (expr 0) _ before after refl w)

pub expr_refused : (level outer : ℕ) (before : List Placed) (end : Place) (stop : Stop) →
    IfRefused stop (Refuses (record { level = level; joined = 0 }) (part Part.unary ∷ part (Part.climb 0 6) ∷ []) before end) →
    IfRefused stop (Refuses (record { level = level; joined = outer }) (part (expr 0) ∷ []) before end)
expr_refused level outer before end stop r = refused_part (record { level = level; joined = outer }) (expr 0) _ before end stop refl r

-- as many may be joined as were counted
pub joined_few : (c : Counts) {level joined : ℕ} → record { level = level; joined = joined } ≡ more c → Fits (more c) → joined ≤ 32
joined_few c same fits = let e = ap (λ (k : Counts). k.joined) same in omega (arith, e, fits.joined)

pub any_halts : (c : Counts) (here : List Placed) (end : Place) (stop : Stop) → IfRefused stop (Halts c here end) → IfRefused stop (Refuses c (one is_any ∷ []) here end)
any_halts c here end (Stop.Refused refusal) h = h.stops is_any (λ next after is. refl)
any_halts c here end Stop.NoMemory h = h

-- a symbol that is joined, and is no bracket
pub joined_reads : (test : Terminal → Bool) (symbol : Symbol) (c d : Counts) {before after : List Placed} {place : Place} → Next (terminal.Symbol symbol) before → TakesNext before after place →
    test (terminal.Symbol symbol) ≡ true → past (terminal.Symbol symbol) (more c) ≡ more c → Fits (more c) → d ≡ more c → Within (more c) (one test ∷ []) before d after
joined_reads test symbol c d n takes passes plain fits same = read_any ((next-takes takes n).first) passes fits (same ∙ sym plain)

op_plain : (op : InfixOp) (c : Counts) → past (terminal.Symbol (symbol_of op)) c ≡ c
op_plain (Logic logic_op.Or) c = refl
op_plain (Binary binary_op.Add) c = refl
op_plain _ c = refl

op_comes : (op : InfixOp) {here : List Placed} → Next (terminal.Symbol (symbol_of op)) here → op_of (next_of here) ≡ Some op
op_comes op n = rw (n.takes.takes.first) (op_of_symbol op)

climb_chosen : (level top : ℕ) (op : InfixOp) (o : Option InfixOp) → o ≡ Some op → level ≤ level_of op → left_level op ≤ top →
    climb_parts level top o ≡ one is_any ∷ part (expr (suc (level_of op))) ∷ part (Part.climb level (level_of op)) ∷ []
climb_chosen level top op o is low high = rw (is, le-leb level (level_of op) low, le-leb (left_level op) top high) refl

climb_enter : (level top : ℕ) {xs : List Expected} {c : Counts} {here : List Placed} → climb_parts level top (op_of (next_of here)) ≡ xs →
    Onward c (part (Part.climb level top) ∷ []) here (more_joined xs c) xs here
climb_enter level top {xs} {c} {here} e =
    subst (λ ys. Onward c (part (Part.climb level top) ∷ []) here (more_joined ys c) ys here) e (enter (Part.climb level top) refl (λ d. refl))

-- after some operations: which operators go on there, by their own levels and by those on their left
pub record Climbs (least most : ℕ) (c d : Counts) (before here : List Placed) : Type 0 where
  pub top : ℕ
  pub left : (op : InfixOp) → level_of op ≤ most → left_level op ≤ top
  pub own : (op : InfixOp) → left_level op ≤ top → level_of op ≤ most
  pub onward : Onward c (part Part.unary ∷ part (Part.climb least 6) ∷ []) before d (part (Part.climb least top) ∷ []) here

pub climbs_first : (least : ℕ) {c d : Counts} {before here : List Placed} → Within c (part Part.unary ∷ []) before d here → Climbs least 5 c d before here
climbs_first least w = record {
  top = 6;
  left = λ op h. (let l = left_low op in omega (arith, l));
  own = λ op h. level_low op;
  onward = step _ w;
}

operator_enter : (op : InfixOp) {least most : ℕ} {c d : Counts} {before here : List Placed} → Climbs least most c d before here → least ≤ level_of op → level_of op ≤ most →
    Next (terminal.Symbol (symbol_of op)) here → Onward c (part Part.unary ∷ part (Part.climb least 6) ∷ []) before (more d)
    (one is_any ∷ part (expr (suc (level_of op))) ∷ part (Part.climb least (level_of op)) ∷ []) here
operator_enter op {least} {here = here} climbs low high n =
    over climbs.onward (climb_enter least climbs.top (climb_chosen least climbs.top op (op_of (next_of here)) (op_comes op n) low (climbs.left op high)))

operator_reads : (op : InfixOp) (c d : Counts) {before after : List Placed} {place : Place} → Next (terminal.Symbol (symbol_of op)) before → TakesNext before after place →
    Fits (more c) → d ≡ more c → Within (more c) (one is_any ∷ []) before d after
operator_reads op c d n takes fits same = joined_reads is_any (symbol_of op) c d n takes refl (op_plain op (more c)) fits same

next_level : {bound : ℕ} (op : InfixOp) → bound ≡ level_of op → bound + 1 ≡ suc (level_of op)
next_level {bound} op binds = add-one bound ∙ ap suc binds

pub climbs_on : (op : InfixOp) {least most later bound : ℕ} {c d e f : Counts} {before here between after : List Placed} {place : Place} →
    Climbs least most c d before here → least ≤ level_of op → level_of op ≤ most → Next (terminal.Symbol (symbol_of op)) here → TakesNext here between place →
    Fits (more d) → e ≡ more d → bound ≡ level_of op → Within e (part Part.unary ∷ part (Part.climb (bound + 1) 6) ∷ []) between f after →
    ((next : InfixOp) → level_of next ≤ later → left_level next ≤ level_of op) → ((next : InfixOp) → left_level next ≤ level_of op → level_of next ≤ later) →
    Climbs least later c f before after
climbs_on op {bound = bound} {e = e} {f = f} {between = between} {after = after} climbs low high n takes fits same binds w left own =
    let v : Within e (part Part.unary ∷ part (Part.climb (suc (level_of op)) 6) ∷ []) between f after =
    subst (λ level. Within e (part Part.unary ∷ part (Part.climb level 6) ∷ []) between f after) (next_level op binds) w in
    let operand : Within e (part (expr (suc (level_of op))) ∷ []) between f after = read_part e f (expr (suc (level_of op))) _ between after refl v in
    record {
      top = level_of op;
      left = left;
      own = own;
      onward = over (operator_enter op climbs low high n) (over (step _ (operator_reads op _ _ n takes fits same)) (step _ operand));
    }

pub operator_halts : (op : InfixOp) {least most : ℕ} {c d : Counts} {before here : List Placed} (end : Place) {last : Place} (stop : Stop) →
    Climbs least most c d before here → least ≤ level_of op → level_of op ≤ most → Next (terminal.Symbol (symbol_of op)) here → last ≡ end → IfRefused stop (Halts (more d) here last) →
    IfRefused stop (Refuses c (part Part.unary ∷ part (Part.climb least 6) ∷ []) before end)
operator_halts op {d = d} {here = here} end {last} stop climbs low high n same h = refused_on _ stop (operator_enter op climbs low high n) same (any_halts (more d) here last stop h)

pub operand_refused : (op : InfixOp) {least most bound : ℕ} {c d e : Counts} {before here between : List Placed} {place : Place} (end : Place) {last : Place} (stop : Stop) →
    Climbs least most c d before here → least ≤ level_of op → level_of op ≤ most → Next (terminal.Symbol (symbol_of op)) here → TakesNext here between place →
    Fits (more d) → e ≡ more d → bound ≡ level_of op → last ≡ end → IfRefused stop (Refuses e (part Part.unary ∷ part (Part.climb (bound + 1) 6) ∷ []) between last) →
    IfRefused stop (Refuses c (part Part.unary ∷ part (Part.climb least 6) ∷ []) before end)
operand_refused op {e = e} {between = between} end {last} stop climbs low high n takes fits joined binds same r =
    let q : IfRefused stop (Refuses e (part Part.unary ∷ part (Part.climb (suc (level_of op)) 6) ∷ []) between last) =
    subst (λ level. IfRefused stop (Refuses e (part Part.unary ∷ part (Part.climb level 6) ∷ []) between last)) (next_level op binds) r in
    refused_on _ stop (over (operator_enter op climbs low high n) (step _ (operator_reads op _ _ n takes fits joined))) same
    (refused_part e (expr (suc (level_of op))) _ between last stop refl q)

both_off : (low high : Bool) (xs : List Expected) → (low ≡ true → high ≡ true → ⊥) → cond (low && high) xs [] ≡ []
both_off true true xs off = absurd (off refl refl)
both_off true false xs off = refl
both_off false high xs off = refl

climb_over : (level top : ℕ) (o : Option InfixOp) → ((op : InfixOp) → o ≡ Some op → level ≤ level_of op → left_level op ≤ top → ⊥) → climb_parts level top o ≡ []
climb_over level top None none = refl
climb_over level top (Some op) none =
    both_off (leb level (level_of op)) (leb (left_level op) top) _ (λ low high. none op refl (leb-true level (level_of op) low) (leb-true (left_level op) top high))

pub operators_end : {least most : ℕ} {c d : Counts} {before here : List Placed} → Climbs least most c d before here →
    ((op : InfixOp) → op_of (next_of here) ≡ Some op → least ≤ level_of op → level_of op ≤ most → ⊥) →
    Within c (part Part.unary ∷ part (Part.climb least 6) ∷ []) before d here
operators_end {least} {here = here} climbs none =
    ends (over climbs.onward (climb_enter least climbs.top (climb_over least climbs.top (op_of (next_of here)) (λ op is low high. none op is low (climbs.own op high)))))

-- which operator comes
pub no_op_at_end : {here : List Placed} → here ≡ [] → op_of (next_of here) ≡ None
no_op_at_end e = rw e refl

pub op_here : {t : Terminal} {here : List Placed} {o : Option InfixOp} → Next t here → op_at t ≡ o → op_of (next_of here) ≡ o
op_here n is = rw (n.takes.takes.first) is
