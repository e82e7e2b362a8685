-- The keys that are locked, and their order. Cited by `is_same` and `is_below`.
use Rattle.std.specs.Prelude.{Bool, true, false, ◌&&◌, ◌||◌, ◌==◌, nat_lt}
use Rattle.sect_modes.specs.{declared.key.Key.{Key}, declared.key.Key.TheVariants.{All, Class, Global, Made}}

-- the two keys are one
abbrev pub is_same_key : Key → Key → Bool
is_same_key All All = true
is_same_key (Class a) (Class b) = a == b
is_same_key (Global a) (Global b) = a == b
is_same_key (Made t n) (Made u m) = (t == u) && (n == m)
is_same_key _ _ = false

-- all objects, then classes by number, then the objects of globals in order, then made objects by thread and number
abbrev pub is_key_below : Key → Key → Bool
is_key_below _ All = false
is_key_below All _ = true
is_key_below (Class a) (Class b) = nat_lt a b
is_key_below (Class _) _ = true
is_key_below (Global _) (Class _) = false
is_key_below (Global a) (Global b) = nat_lt a b
is_key_below (Global _) (Made _ _) = true
is_key_below (Made t n) (Made u m) = nat_lt t u || ((t == u) && nat_lt n m)
is_key_below (Made _ _) _ = false
