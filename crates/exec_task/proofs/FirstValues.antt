-- What a field holds at first is the same as a value of the code and of a run.
use Rattle.std.proofs.Common.{◌≡◌, List, [], ◌∷◌, map, refl, ap₂}
use Rattle.lang_base.specs.declared.value.FirstValue.{FirstValue}
use Rattle.lang_base.specs.declared.value.FirstValue.TheVariants as held
use Rattle.lang_base.specs.FirstValues.{constant_of}
use Rattle.code_instrs.specs.Machine.{held_first}
use Rattle.exec_frames.specs.Names.{plain_value}

pub held_is : (f : FirstValue) → plain_value (constant_of f) ≡ held_first f
held_is held.Zero = refl
held_is held.False = refl
held_is held.Null = refl

pub all_held : (fs : List FirstValue) → map plain_value (map constant_of fs) ≡ map held_first fs
all_held [] = refl
all_held (f ∷ fs) = ap₂ ◌∷◌ (held_is f) (all_held fs)
