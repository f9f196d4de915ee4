-- The files of a map: their entries in order, and those of a copy.
use Rattle.std.proofs.Common.{◌≡◌, ℕ, List, [], ◌∷◌, map, refl, ap, ◌∙◌}
use Rattle.std.specs.Prelude.{string_bytes, vec_len}
use Rattle.std.specs.FinMap as fin
use Rattle.std.specs.List.{AllZip}
use Rattle.std.specs.BTreeMap.{BTreeMap, IsOrdered}
use Rattle.std.specs.String.{string_cmp}
use Rattle.std.specs.declared.string.String.{String}
use Rattle.std.specs.declared.vec.Vec.{Vec}
use Rattle.std.specs.declared.alloc.Global.{Global}
use Rattle.outside.specs.FileMap.{file_of, files_of}
use Rattle.outside.proofs.FileMapLemmas.{entries-files_of}
use Rattle.store_model.specs.StoreCalls.{entry_of}
use Rattle.store_model.specs.declared.store.Entry.{Entry}
use Rattle.vdir_store.specs.Vdir.{held_entry}
use Rattle.mem_store.specs.Memory.{content_of}
use Rattle.mem_store.proofs.ContentLemmas.{entries-content_of}

-- the entries of those files
abbrev pub listed : List (String Global × Vec ℕ Global) → List Entry
listed es = map entry_of (map held_entry (map file_of es))

pub listed-content_of : (m : BTreeMap (String Global) (Vec ℕ Global)) → IsOrdered string_cmp m → map entry_of (fin.entries (content_of (files_of m))) ≡ listed m.entries
listed-content_of m h = ap (map entry_of) (entries-content_of (files_of m)) ∙ ap (λ es. map entry_of (map held_entry es)) (entries-files_of m h)

same_bytes : (xs ys : List ℕ) → AllZip (λ x y. y ≡ x) xs ys → ys ≡ xs
same_bytes [] [] h = refl
same_bytes [] (y ∷ ys) h = absurd h
same_bytes (x ∷ xs) [] h = absurd h
same_bytes (x ∷ xs) (y ∷ ys) h = λ i. h.0 i ∷ same_bytes xs ys h.1 i

same_files : (es fs : List (String Global × Vec ℕ Global)) → AllZip (λ p q. (string_bytes q.0 ≡ string_bytes p.0) × (AllZip (λ x y. y ≡ x) p.1.items q.1.items × (vec_len q.1 ≡ vec_len p.1))) es fs → map file_of fs ≡ map file_of es
same_files [] [] h = refl
same_files [] (f ∷ fs) h = absurd h
same_files (e ∷ es) [] h = absurd h
same_files (e ∷ es) (f ∷ fs) h = λ i. (h.0.0 i, same_bytes e.1.items f.1.items h.0.1.0 i) ∷ same_files es fs h.1 i

-- a copy of the map has the same files
pub files_of-copy : (m n : BTreeMap (String Global) (Vec ℕ Global)) → AllZip (λ p q. (string_bytes q.0 ≡ string_bytes p.0) × (AllZip (λ x y. y ≡ x) p.1.items q.1.items × (vec_len q.1 ≡ vec_len p.1))) m.entries n.entries → files_of n ≡ files_of m
unfolding files_of
files_of-copy m n h = ap (λ es. fin.from_entries es) (same_files m.entries n.entries h)
