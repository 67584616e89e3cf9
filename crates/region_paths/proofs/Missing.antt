-- Region parameters that have no argument.
use Rattle.std.proofs.Common.{◌≡◌, ℕ, ◌≤◌, List, [], length, sym, ap, subst}
use Rattle.std.proofs.lemmas.List.{get_or_past}
use Rattle.lang_base.specs.declared.region.Head.TheVariants.{Param}
use Rattle.lang_base.specs.declared.region.Rpl.{Rpl}
use Rattle.lang_base.specs.Regions.{following, put_at, substituted}

-- it stays
pub substituted_missing : (args : List Rpl) (a : Rpl) (p : ℕ) → a.head ≡ Param p → length args ≤ p → substituted args a ≡ a
unfolding substituted
substituted_missing args a p is past =
    subst (λ h. put_at h a.elems args ≡ record { head = h; elems = a.elems }) (sym is)
    (ap (λ r. following r a.elems) (get_or_past args p (record { head = Param p; elems = [] }) past))
