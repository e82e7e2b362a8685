-- Which locks stand above a lock.
use Rattle.std.proofs.Common.{◌≡◌, ◌↔◌, ◌⊎◌, inl, inr, ℕ, ◌≤◌, List, [], ◌∷◌, ◌++◌, Option, Some, None, take, length}
use Rattle.std.proofs.{Common.{refl, sym, ap, ◌∙◌, subst, arith}, lemmas.List.{take-append-le, take_all}}
use Rattle.std.proofs.lemmas.Option.{slice_get_within}
use Rattle.sect_lemmas.specs.Lists.{Has}
use Rattle.sect_lemmas.proofs.Places.{pushed_at}
use Rattle.sect_points.specs.{Paths.{PathView}, Partitions.{HasClass}}
use Rattle.sect_names.specs.{declared.lock.Effect.{Effect}, declared.lock.Right.{Right}, declared.lock.Lock.{Lock}}
use Rattle.sect_names.specs.{Schemes.{SchemeView}, Climbing.{IsAbove, AreBehind, AreCoverers}}
use Rattle.sect_names.specs.Above.{over_class, over_path}
use Rattle.sect_names.specs.declared.lock.Effect.TheVariants as effect
use Rattle.sect_names.specs.declared.lock.Right.TheVariants as right
use Rattle.sect_names.specs.declared.lock.Lock.TheVariants as lock

module _ (s : SchemeView) where
  -- nothing stands above the lock on all
  above_all : (big : Lock) → IsAbove s big lock.All → ⊥
  above_all lock.All h = h.1 refl
  above_all (lock.Class c r) h = h.0
  above_all (lock.Path p e) h = h.0

  above_written : (c : ℕ) (big : Lock) → IsAbove s big (lock.Class c right.Write) → big ≡ lock.All
  above_written c lock.All h = refl
  above_written c (lock.Class d right.Write) h = absurd (h.1 (ap (λ n. lock.Class n right.Write) h.0.0))
  above_written c (lock.Class d right.Read) h = absurd h.0.1
  above_written c (lock.Class d right.Make) h = absurd h.0.1
  above_written c (lock.Path p e) h = absurd h.0

  -- above one on a class stands at most that on all and that to write it
  above_class : (c : ℕ) (r : Right) (big : Lock) → IsAbove s big (lock.Class c r)
      → (big ≡ lock.All) ⊎ (big ≡ lock.Class c right.Write)
  above_class c r lock.All h = inl refl
  above_class c r (lock.Class d right.Write) h = inr (ap (λ n. lock.Class n right.Write) h.0.0)
  above_class c right.Read (lock.Class d right.Read) h = absurd (h.1 (ap (λ n. lock.Class n right.Read) h.0.0))
  above_class c right.Write (lock.Class d right.Read) h = absurd h.0.1
  above_class c right.Make (lock.Class d right.Read) h = absurd h.0.1
  above_class c right.Make (lock.Class d right.Make) h = absurd (h.1 (ap (λ n. lock.Class n right.Make) h.0.0))
  above_class c right.Write (lock.Class d right.Make) h = absurd h.0.1
  above_class c right.Read (lock.Class d right.Make) h = absurd h.0.1
  above_class c r (lock.Path p e) h = absurd h.0

  -- above one on a path stand at most that on all, those on its class, and that to write it
  above_path : (p : PathView) (e : Effect) (big : Lock) → IsAbove s big (lock.Path p e)
      → (big ≡ lock.All) ⊎ ((c : ℕ) × HasClass s.classes p c
      × ((big ≡ lock.Class c right.Write) ⊎ ((e ≡ effect.Read) × (big ≡ lock.Class c right.Read))))
      ⊎ ((e ≡ effect.Read) × (big ≡ lock.Path p effect.Write))
  above_path p e lock.All h = inl refl
  above_path p e (lock.Class c right.Write) h = inr (inl (c, h.0.0, inl refl))
  above_path p effect.Read (lock.Class c right.Read) h = inr (inl (c, h.0.0, inr (refl, refl)))
  above_path p effect.Write (lock.Class c right.Read) h = absurd h.0.1
  above_path p e (lock.Class c right.Make) h = absurd h.0.1
  above_path p effect.Read (lock.Path q effect.Write) h = inr (inr (refl, ap (λ o. lock.Path o effect.Write) h.0.0))
  above_path p effect.Write (lock.Path q effect.Write) h = absurd (h.1 (ap (λ o. lock.Path o effect.Write) h.0.0))
  above_path p effect.Read (lock.Path q effect.Read) h = absurd (h.1 (ap (λ o. lock.Path o effect.Read) h.0.0))
  above_path p effect.Write (lock.Path q effect.Read) h = absurd h.0.1

  -- one to write a path stands above that to read it alone
  pub below_write : (p : PathView) (l : Lock) → IsAbove s (lock.Path p effect.Write) l → l ≡ lock.Path p effect.Read
  below_write p lock.All h = absurd h.0
  below_write p (lock.Class c r) h = absurd h.0
  below_write p (lock.Path q effect.Write) h = absurd (h.1 (ap (λ o. lock.Path o effect.Write) h.0.0))
  below_write p (lock.Path q effect.Read) h = ap (λ o. lock.Path o effect.Read) (sym h.0.0)

  none_behind : AreBehind s []
  none_behind i c at = absurd cc

  more_behind : (locks : List Lock) (l : Lock) → AreBehind s locks → ((big : Lock) → IsAbove s big l → Has locks big)
      → AreBehind s (locks ++ l ∷ [])
  more_behind locks l before over i c at big h = elim (pushed_at locks l c i at) [
    | inl e ↦
        let past : length locks ≤ i = omega (arith, e.0) in
        let front : take i (locks ++ l ∷ []) ≡ locks = take-append-le i locks (l ∷ []) (omega (arith, e.0))
        ∙ take_all i locks past in
        subst (λ ls. Has ls big) (sym front) (over big (subst (IsAbove s big) (sym e.1) h))
    | inr k ↦
        let within = slice_get_within locks i c k in
        subst (λ ls. Has ls big) (sym (take-append-le i locks (l ∷ []) (omega (arith, within)))) (before i c k big h)
  ]

  abbrev on_all : List Lock
  on_all = lock.All ∷ []

  abbrev to_write : ℕ → List Lock
  to_write c = lock.All ∷ lock.Class c right.Write ∷ []

  abbrev to_read : ℕ → List Lock
  to_read c = lock.All ∷ lock.Class c right.Write ∷ lock.Class c right.Read ∷ []

  behind_all : AreBehind s on_all
  behind_all = more_behind [] lock.All none_behind (λ big h. absurd (above_all big h))

  behind_write : (c : ℕ) → AreBehind s (to_write c)
  behind_write c = more_behind on_all (lock.Class c right.Write) behind_all (λ big h. inl (sym (above_written c big h)))

  behind_read : (c : ℕ) → AreBehind s (to_read c)
  behind_read c = more_behind (to_write c) (lock.Class c right.Read) (behind_write c)
      (λ big h. elim (above_class c right.Read big h) [ inl e ↦ inl (sym e) | inr e ↦ inr (inl (sym e)) ])

  is_above : (big b l : Lock) → IsAbove s b l → b ≡ big → IsAbove s big l
  is_above big b l h e = subst (λ x. IsAbove s x l) e h

  part_coverers : (c : ℕ) (r : Right) → IsAbove s (lock.Class c right.Write) (lock.Class c r)
      → AreCoverers s (lock.Class c r) (to_write c)
  part_coverers c r over = record {
    all = λ big. (
      λ h. elim h [
        | inl e ↦ is_above big lock.All (lock.Class c r) (tt, λ e. cc) e
        | inr k ↦ elim k [
          | inl e ↦ is_above big (lock.Class c right.Write) (lock.Class c r) over e
          | inr none ↦
              absurd none
        ]
      ],
      λ h. elim (above_class c r big h) [ inl e ↦ inl (sym e) | inr e ↦ inr (inl (sym e)) ],
    );
    behind = behind_write c;
  }

  pub class_coverers : (c : ℕ) (r : Right) → AreCoverers s (lock.Class c r) (over_class c r)
  class_coverers c right.Write = record {
    all = λ big. (
      λ h. elim h [ inl e ↦ is_above big lock.All (lock.Class c right.Write) (tt, λ e. cc) e | inr none ↦ absurd none ],
      λ h. inl (sym (above_written c big h)),
    );
    behind = behind_all;
  }
  class_coverers c right.Read = part_coverers c right.Read ((refl, tt), λ e. cc)
  class_coverers c right.Make = part_coverers c right.Make ((refl, tt), λ e. cc)

  pub all_coverers : AreCoverers s lock.All []
  all_coverers = record { all = λ big. (λ h. absurd h, λ h. absurd (above_all big h)); behind = none_behind }

  module _ (p : PathView) where
    module _ (unclassed : (n : ℕ) → HasClass s.classes p n → ⊥) where
      bare_behind : AreBehind s (lock.All ∷ lock.Path p effect.Write ∷ [])
      bare_behind = more_behind on_all (lock.Path p effect.Write) behind_all
          (λ big h. elim (above_path p effect.Write big h) [
            | inl e ↦ inl (sym e)
            | inr k ↦ elim k [ inl c ↦ absurd (unclassed c.0 c.1) | inr e ↦ (let f = e.0 in absurd cc) ]
          ])

      pub bare_coverers : (e : Effect) → AreCoverers s (lock.Path p e) (over_path None p e)
      bare_coverers effect.Write = record {
        all = λ big. (
          λ h. elim h [
            | inl e ↦ is_above big lock.All (lock.Path p effect.Write) (tt, λ e. cc) e
            | inr none ↦
                absurd none
          ],
          λ h. elim (above_path p effect.Write big h) [
            | inl e ↦ inl (sym e)
            | inr k ↦ elim k [ inl c ↦ absurd (unclassed c.0 c.1) | inr e ↦ (let f = e.0 in absurd cc) ]
          ],
        );
        behind = behind_all;
      }
      bare_coverers effect.Read = record {
        all = λ big. (
          λ h. elim h [
            | inl e ↦ is_above big lock.All (lock.Path p effect.Read) (tt, λ e. cc) e
            | inr k ↦ elim k [
              | inl e ↦ is_above big (lock.Path p effect.Write) (lock.Path p effect.Read)
                  ((refl, tt), λ e. cc) e
              | inr none ↦ absurd none
            ]
          ],
          λ h. elim (above_path p effect.Read big h) [
            | inl e ↦ inl (sym e)
            | inr k ↦ elim k [ inl c ↦ absurd (unclassed c.0 c.1) | inr e ↦ inr (inl (sym e.1)) ]
          ],
        );
        behind = bare_behind;
      }

    module _ (c : ℕ) (of : HasClass s.classes p c) (only : (n : ℕ) → HasClass s.classes p n → n ≡ c) where
      written_above : (big : Lock) → IsAbove s big (lock.Path p effect.Write) → Has (to_write c) big
      written_above big h = elim (above_path p effect.Write big h) [
        | inl e ↦ inl (sym e)
        | inr k ↦ elim k [
          | inl d ↦ elim d.2 [
            | inl e ↦ inr (inl (sym (e ∙ ap (λ n. lock.Class n right.Write) (only d.0 d.1))))
            | inr f ↦
                (let g = f.0 in absurd cc)
          ]
          | inr e ↦ (let f = e.0 in absurd cc)
        ]
      ]

      four_behind : AreBehind s (over_path (Some c) p effect.Read)
      four_behind = more_behind (to_read c) (lock.Path p effect.Write) (behind_read c)
          (λ big h. elim (written_above big h) [
            | inl e ↦ inl e
            | inr k ↦ elim k [ inl e ↦ inr (inl e) | inr none ↦ absurd none ]
          ])

      pub path_coverers : (e : Effect) → AreCoverers s (lock.Path p e) (over_path (Some c) p e)
      path_coverers effect.Write = record {
        all = λ big. (
          λ h. elim h [
            | inl e ↦ is_above big lock.All (lock.Path p effect.Write) (tt, λ e. cc) e
            | inr k ↦ elim k [
              | inl e ↦ is_above big (lock.Class c right.Write) (lock.Path p effect.Write)
                  ((of, tt), λ e. cc) e
              | inr none ↦ absurd none
            ]
          ],
          λ h. written_above big h,
        );
        behind = behind_write c;
      }
      path_coverers effect.Read = record {
        all = λ big. (
          λ h. elim h [
            | inl e ↦ is_above big lock.All (lock.Path p effect.Read) (tt, λ e. cc) e
            | inr k ↦ elim k [
              | inl e ↦ is_above big (lock.Class c right.Write) (lock.Path p effect.Read) ((of, tt), λ e. cc) e
              | inr m ↦ elim m [
                | inl e ↦ is_above big (lock.Class c right.Read) (lock.Path p effect.Read) ((of, tt), λ e. cc) e
                | inr o ↦ elim o [
                  | inl e ↦ is_above big (lock.Path p effect.Write) (lock.Path p effect.Read)
                      ((refl, tt), λ e. cc) e
                  | inr none ↦ absurd none
                ]
              ]
            ]
          ],
          λ h. elim (above_path p effect.Read big h) [
            | inl e ↦ inl (sym e)
            | inr k ↦ elim k [
              | inl d ↦ elim d.2 [
                | inl e ↦ inr (inl (sym (e ∙ ap (λ n. lock.Class n right.Write) (only d.0 d.1))))
                | inr f ↦ inr (inr (inl (sym (f.1 ∙ ap (λ n. lock.Class n right.Read) (only d.0 d.1)))))
              ]
              | inr e ↦ inr (inr (inr (inl (sym e.1))))
            ]
          ],
        );
        behind = four_behind;
      }

    -- the locks above one on a path, whose class is told
    pub coverers_of_path : (o : Option ℕ) → ((n : ℕ) → (o ≡ Some n) ↔ HasClass s.classes p n) → (e : Effect)
        → AreCoverers s (lock.Path p e) (over_path o p e)
    coverers_of_path None told e = bare_coverers (λ n h. let is = (told n).1 h in absurd cc) e
    coverers_of_path (Some c) told e = path_coverers c ((told c).0 refl) (λ n h. let is = (told n).1 h in cc) e
