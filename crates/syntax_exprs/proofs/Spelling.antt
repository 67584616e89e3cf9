-- The expressions of one terminal.
use Rattle.std.proofs.Common.{◌≡◌, ◌≢◌, ℕ, ℤ, true, false, None, refl}
use Rattle.syntax_tokens.specs.declared.token.Keyword.{Keyword}
use Rattle.syntax_tokens.specs.declared.terminal.Terminal.{Terminal}
use Rattle.syntax_tokens.specs.declared.terminal.Terminal.TheVariants as terminal
use Rattle.syntax_tree.specs.declared.expr.ExprKind.TheVariants as kind
use Rattle.syntax_grammar.specs.Expecting.{literal_parts}
use Rattle.syntax_grammar.specs.Reading.{plain_kind, Spells}
use Rattle.syntax_grammar.proofs.Trees.{kind_Int, kind_Bool, kind_Null, kind_This, kind_Local}

pub number_spelled : {t : Terminal} {n m : ℤ} → t ≡ terminal.Int m → n ≡ m → Spells t (plain_kind (kind.Int n))
number_spelled {n = n} is same = rw (is, kind_Int n, same) Spells.number

pub name_spelled : (name : ℕ) → Spells (terminal.Name name) (plain_kind (kind.Local name))
name_spelled name = rw (kind_Local name) Spells.name

pub true_spelled : Spells (terminal.Keyword Keyword.True) (plain_kind (kind.Bool true))
true_spelled = rw (kind_Bool true) Spells.yes

pub false_spelled : Spells (terminal.Keyword Keyword.False) (plain_kind (kind.Bool false))
false_spelled = rw (kind_Bool false) Spells.no

pub null_spelled : Spells (terminal.Keyword Keyword.Null) (plain_kind kind.Null)
null_spelled = rw kind_Null Spells.nothing

pub this_spelled : Spells (terminal.Keyword Keyword.This) (plain_kind kind.This)
this_spelled = rw kind_This Spells.receiver

pub no_constant : {k : Keyword} → k ≢ Keyword.True → k ≢ Keyword.False → k ≢ Keyword.Null → k ≢ Keyword.This → literal_parts (terminal.Keyword k) ≡ None
no_constant {k = Keyword.True} not_true not_false not_null not_this = absurd (not_true refl)
no_constant {k = Keyword.False} not_true not_false not_null not_this = absurd (not_false refl)
no_constant {k = Keyword.Null} not_true not_false not_null not_this = absurd (not_null refl)
no_constant {k = Keyword.This} not_true not_false not_null not_this = absurd (not_this refl)
no_constant not_true not_false not_null not_this = refl
