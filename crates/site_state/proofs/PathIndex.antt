-- What an index of files by their paths says: where a file is found by its inode or its path, and which edits keep it.
use Rattle.std.proofs.Common.{◌≡◌, ℕ, ◌+◌, ◌-◌, ◌<◌, ◌≤◌, List, [], ◌∷◌, ◌++◌, length, get_or, set, refl, sym, ◌∙◌, ap, subst, arith, true, false, Option, Some, None, Result, Ok, Err, inl, inr, eq-eqb, ne_eqb, eqb-true, length-set}
use Rattle.std.specs.Prelude.{All, ◌==◌, ◌↔◌, IsTrue, nat_lt, position, insert, remove, slice_get}
use Rattle.std.specs.List.{AllPairs, Any, Contains}
use Rattle.std.specs.List.Sorted.{IsSearchInRange, IsBinarySearchResult, IsPartitionPoint, IsNonDecreasingBy}
use Rattle.std.specs.Option.{option_map_or}
use Rattle.std.specs.Result.{result_ok}
use Rattle.std.specs.Str.{bytes_eq}
use Rattle.std.specs.Cmp.Lexicographic.{slice_cmp}
use Rattle.std.specs.Ordering.{nat_cmp, is_lt, is_eq, ordering_reverse, ordering_index}
use Rattle.std.specs.declared.cmp.Ordering.{Ordering}
use Rattle.std.specs.declared.cmp.Ordering.TheVariants.{Less, Equal, Greater}
use Rattle.std.proofs.lemmas.Bool.{cases_lt, cases_eq, false_from_ne_true, ltb-true, lt-ltb}
use Rattle.std.proofs.lemmas.Bool.Decides.{nat_tests}
use Rattle.std.proofs.lemmas.Cmp.{nat_cmp_total, nat_list_cmp_total, tied_itself, ranked}
use Rattle.std.proofs.lemmas.List.{get_or_default, get_or_append_left, get_or_push, length_push, get_or-set_same, get_or-set_other}
use Rattle.std.proofs.lemmas.List.Elements.{All-push}
use Rattle.std.proofs.lemmas.List.Quantifiers.{position-Some, all_pairs_push, all_pairs_remove}
use Rattle.std.proofs.lemmas.List.Sorted.{searchable_from_sorted}
use Rattle.std.proofs.lemmas.Map.Text.{is_eq-slice_cmp}
use Rattle.std.proofs.lemmas.Option.{slice_get_within, slice_get-get_or, get_or_from_slice_get}
use Rattle.std.proofs.lemmas.Slice.Eq.{bytes_eq-Decides}
use Rattle.site_types.specs.declared.file.FileRec.{FileRec}
use Rattle.site_history.specs.Site.{file_at}
use Rattle.site_state.specs.PathIndex.{RiseByInode, path_of, IsPathIndex, IsPlaceFor}
use Rattle.site_state.proofs.Places.{position_at, position-none, find_at, find-none, none_passes}
use Rattle.site_state.proofs.Legality.{at_path, file_at-some}
use Rattle.site_state.proofs.Orders.{one_place, behind_insert, behind_remove, still_there, pairs-insert, contains-insert, contains-inserted}

-- no list of bytes is below itself or above itself
not_below_itself : (xs : List ℕ) → slice_cmp nat_cmp xs xs ≡ Less → ⊥
not_below_itself xs e = let differs : Less ≡ Equal = sym e ∙ tied_itself nat_list_cmp_total xs in cc

not_above_itself : (xs : List ℕ) → slice_cmp nat_cmp xs xs ≡ Greater → ⊥
not_above_itself xs e = let differs : Greater ≡ Equal = sym e ∙ tied_itself nat_list_cmp_total xs in cc

-- what is equal in order is one list
same_from_equal : (xs ys : List ℕ) → slice_cmp nat_cmp xs ys ≡ Equal → xs ≡ ys
same_from_equal xs ys e = (bytes_eq-Decides xs ys).0 (sym (is_eq-slice_cmp xs ys) ∙ ap is_eq e)

-- one list is below the other where the other is above it
below_from_above : (xs ys : List ℕ) → slice_cmp nat_cmp xs ys ≡ Greater → slice_cmp nat_cmp ys xs ≡ Less
below_from_above xs ys e = nat_list_cmp_total.antisymm ys xs ∙ ap ordering_reverse e

not_below_back : (xs ys : List ℕ) → slice_cmp nat_cmp xs ys ≡ Less → is_lt (slice_cmp nat_cmp ys xs) ≡ false
not_below_back xs ys e = ap is_lt (nat_list_cmp_total.antisymm ys xs ∙ ap ordering_reverse e)

-- ---- by inode

module _ (files : List FileRec) (rise : RiseByInode files) where
  -- an inode is that of one file
  pub one_inode : (j k : ℕ) (d : FileRec) → j < length files → k < length files → (get_or files j d).inode ≡ (get_or files k d).inode → j ≡ k
  one_inode j k d j_in k_in same =
      one_place j k (λ below. omega (arith, rise j k d below k_in, same)) (λ above. omega (arith, rise k j d above j_in, same))

  module _ (inode k : ℕ) (d : FileRec) (k_in : k < length files) (is : inode ≡ (get_or files k d).inode) where
    passes : ((get_or files k d).inode == inode) ≡ true
    passes = eq-eqb (get_or files k d).inode inode (sym is)

    fails : (j : ℕ) → j < k → ((get_or files j d).inode == inode) ≡ false
    fails j below = ne_eqb (get_or files j d).inode inode (λ same. omega (arith, rise j k d below k_in, same, is))

    pub position_of_inode : position (λ (file : FileRec). file.inode == inode) files ≡ Some k
    position_of_inode = position_at (λ (file : FileRec). file.inode == inode) files k d k_in passes fails

    pub path_of-at : path_of files inode ≡ (get_or files k d).path
    path_of-at = ap (λ (o : Option FileRec). option_map_or (λ (file : FileRec). file.path) o []) (find_at (λ (file : FileRec). file.inode == inode) files k d k_in passes fails)

  -- the path at the place that was found
  pub path_of_found : (inode k : ℕ) (d : FileRec) → position (λ (file : FileRec). file.inode == inode) files ≡ Some k → path_of files inode ≡ (get_or files k d).path
  path_of_found inode k d e =
      let at = position-Some (λ (file : FileRec). file.inode == inode) files k d e in
      path_of-at inode k d at.0 (sym (eqb-true (get_or files k d).inode inode at.1))

  -- the last file's inode is above those of the others
  pub all_below : (inode : ℕ) (last : FileRec) → slice_get files (length files - 1) ≡ Some last → IsTrue (nat_lt last.inode inode) ↔ All (λ (file : FileRec). file.inode < inode) files
  all_below inode last e =
      let within = slice_get_within files (length files - 1) last e in (
        λ below k d k_in.
            let end : (get_or files (length files - 1) d).inode ≡ last.inode = ap (λ (file : FileRec). file.inode) (get_or_from_slice_get files (length files - 1) last d e) in
            let lower : last.inode < inode = ltb-true last.inode inode below in
            elim (cases_lt k (length files - 1)) [
              | inl before ↦ omega (arith, rise k (length files - 1) d before within, end, lower)
              | inr from ↦
                  let same : k ≡ length files - 1 = omega (arith, from, k_in) in
                  let here : (get_or files k d).inode ≡ (get_or files (length files - 1) d).inode = ap (λ (n : ℕ). (get_or files n d).inode) same in
                  omega (arith, here, end, lower)
            ],
        λ all. lt-ltb last.inode inode
            (subst (λ (file : FileRec). file.inode < inode) (get_or_from_slice_get files (length files - 1) last last e) (all (length files - 1) last within)),
      )

  -- the inodes compared with one rise, as a search that halves asks
  inodes_searchable : (inode : ℕ) → IsNonDecreasingBy (λ (file : FileRec). ordering_index (nat_cmp file.inode inode)) files
  inodes_searchable inode = searchable_from_sorted nat_cmp_total (λ (file : FileRec). file.inode) files inode
      (λ k d from lt. not_lower (get_or files k d).inode (get_or files (k + 1) d).inode (rise k (k + 1) d (omega arith) lt))
    where
      not_lower : (a b : ℕ) → a < b → is_lt (nat_cmp b a) ≡ false
      not_lower a b below = grind (arith, nat_tests)

  -- where no inode is the one that is sought, it has no place
  pub position_of_none : (inode place : ℕ) → IsPartitionPoint (λ (file : FileRec). nat_cmp file.inode inode ≡ Less) (λ (file : FileRec). nat_cmp file.inode inode ≡ Greater) files place
      → position (λ (file : FileRec). file.inode == inode) files ≡ None
  position_of_none inode place parted = position-none (λ (file : FileRec). file.inode == inode) files
      (λ k d k_in. ne_eqb (get_or files k d).inode inode (λ same. elim (cases_lt k place) [
        | inl before ↦ differs (get_or files k d).inode inode same Less (λ e. cc) (parted.0 k d (omega arith) before)
        | inr from ↦ differs (get_or files k d).inode inode same Greater (λ e. cc) (parted.1 k d from k_in)
      ]))
    where
      differs : (a b : ℕ) → a ≡ b → (o : Ordering) → (o ≡ Equal → ⊥) → nat_cmp a b ≡ o → ⊥
      differs a b same o other e = other (sym e ∙ subst (λ n. nat_cmp a n ≡ Equal) same (tied_itself nat_cmp_total a))

  -- what the search of an inode answers
  pub inode_found : (inode : ℕ) (answer : Result ℕ ℕ) → IsSearchInRange answer (length files) → IsBinarySearchResult (λ (file : FileRec). nat_cmp file.inode inode) files answer
      → result_ok answer ≡ position (λ (file : FileRec). file.inode == inode) files
  inode_found inode (Err place) bound found = sym (position_of_none inode place (found (inodes_searchable inode)))
  inode_found inode (Ok k) bound found = some_file files bound found (λ d is. position_of_inode inode k d bound is)
    where
      some_file : (l : List FileRec) → k < length l → ((d : FileRec) → nat_cmp (get_or l k d).inode inode ≡ Equal)
          → ((d : FileRec) → inode ≡ (get_or l k d).inode → position (λ (file : FileRec). file.inode == inode) files ≡ Some k)
          → Some k ≡ position (λ (file : FileRec). file.inode == inode) files
      some_file [] k_in equal place = absurd (omega arith)
      some_file (file ∷ l) k_in equal place = sym (place file (sym (ranked (get_or (file ∷ l) k file).inode inode Equal (sym (equal file)))))

-- no file of an inode has a path
pub path_of_none : (files : List FileRec) (inode : ℕ) → position (λ (file : FileRec). file.inode == inode) files ≡ None → path_of files inode ≡ []
path_of_none files inode e = ap (λ (o : Option FileRec). option_map_or (λ (file : FileRec). file.path) o [])
    (find-none (λ (file : FileRec). file.inode == inode) files (none_passes (λ (file : FileRec). file.inode == inode) files e))

-- ---- by path

module _ (files : List FileRec) (by_path : List ℕ) (rise : RiseByInode files) (index : IsPathIndex files by_path) where
  -- an inode in the index stands before that of each path that is above its own
  in_order : (a b x y : ℕ) → a < b → b < length by_path → get_or by_path a x ≡ x → get_or by_path b y ≡ y → slice_cmp nat_cmp (path_of files x) (path_of files y) ≡ Less
  in_order a b x y below b_in at_a at_b =
      subst (λ (n : ℕ). slice_cmp nat_cmp (path_of files n) (path_of files y) ≡ Less) at_a
      (subst (λ (n : ℕ). slice_cmp nat_cmp (path_of files (get_or by_path a x)) (path_of files n) ≡ Less) (get_or_default by_path b x y b_in ∙ at_b)
      (index.rises a b x below b_in))

  -- a path is that of one file
  pub one_path : (j k : ℕ) (d : FileRec) → j < length files → k < length files → (get_or files j d).path ≡ (get_or files k d).path → j ≡ k
  one_path j k d j_in k_in same =
      let at_j = index.has_each j d j_in in
      let at_k = index.has_each k d k_in in
      let alike : path_of files (get_or files j d).inode ≡ path_of files (get_or files k d).inode =
      path_of-at files rise (get_or files j d).inode j d j_in refl ∙ same ∙ sym (path_of-at files rise (get_or files k d).inode k d k_in refl) in
      let place : at_j.0 ≡ at_k.0 = one_place at_j.0 at_k.0
      (λ below. not_below_itself (path_of files (get_or files j d).inode)
      (subst (λ (l : List ℕ). slice_cmp nat_cmp (path_of files (get_or files j d).inode) l ≡ Less) (sym alike)
      (in_order at_j.0 at_k.0 (get_or files j d).inode (get_or files k d).inode below at_k.1 at_j.2 at_k.2)))
      (λ above. not_below_itself (path_of files (get_or files k d).inode)
      (subst (λ (l : List ℕ). slice_cmp nat_cmp (path_of files (get_or files k d).inode) l ≡ Less) alike
      (in_order at_k.0 at_j.0 (get_or files k d).inode (get_or files j d).inode above at_j.1 at_k.2 at_j.2))) in
      one_inode files rise j k d j_in k_in
      (sym at_j.2
      ∙ get_or_default by_path at_j.0 (get_or files j d).inode (get_or files k d).inode at_j.1
      ∙ ap (λ (n : ℕ). get_or by_path n (get_or files k d).inode) place
      ∙ at_k.2)

  module _ (path : List ℕ) where
    pub position_of_path : (k : ℕ) (d : FileRec) → k < length files → (get_or files k d).path ≡ path → position (λ (file : FileRec). bytes_eq file.path path) files ≡ Some k
    position_of_path k d k_in is = position_at (λ (file : FileRec). bytes_eq file.path path) files k d k_in
        ((bytes_eq-Decides (get_or files k d).path path).1 is)
        (λ j below. false_from_ne_true (bytes_eq (get_or files j d).path path)
        (λ passes. omega (arith, below, one_path j k d (omega arith) k_in ((bytes_eq-Decides (get_or files j d).path path).0 passes ∙ sym is))))

    paths_searchable : IsNonDecreasingBy (λ (inode : ℕ). ordering_index (slice_cmp nat_cmp (path_of files inode) path)) by_path
    paths_searchable = searchable_from_sorted nat_list_cmp_total (path_of files) by_path path
        (λ k d from lt. not_below_back (path_of files (get_or by_path k d)) (path_of files (get_or by_path (k + 1) d)) (index.rises k (k + 1) d (omega arith) lt))

    -- where the search ends at a place, the inode of the path's file stands there
    pub path_at : (place d : ℕ) → place < length by_path → ((e : ℕ) → slice_cmp nat_cmp (path_of files (get_or by_path place e)) path ≡ Equal)
        → (k : ℕ) × (x : FileRec) × (k < length files) × (get_or by_path place d ≡ (get_or files k x).inode) × ((get_or files k x).path ≡ path)
    path_at place d place_in equal =
        let of = index.of_files place d place_in in
        let here : get_or by_path place d ≡ (get_or files of.0 of.1).inode = sym of.4 ∙ sym (ap (λ (file : FileRec). file.inode) of.3) in (
          of.0,
          of.1,
          of.2,
          here,
          sym (path_of-at files rise (get_or by_path place d) of.0 of.1 of.2 here) ∙ same_from_equal (path_of files (get_or by_path place d)) path (equal d),
        )

    pub path_found : (place : ℕ) → place < length by_path → ((e : ℕ) → slice_cmp nat_cmp (path_of files (get_or by_path place e)) path ≡ Equal)
        → position (λ (file : FileRec). file.inode == get_or by_path place 0) files ≡ position (λ (file : FileRec). bytes_eq file.path path) files
    path_found place place_in equal =
        let at = path_at place 0 place_in equal in
        position_of_inode files rise (get_or by_path place 0) at.0 at.1 at.2 at.3 ∙ sym (position_of_path at.0 at.1 at.2 at.4)

    -- where it ends between two places, no file has the path
    pub no_path : (place : ℕ) → IsBinarySearchResult (λ (inode : ℕ). slice_cmp nat_cmp (path_of files inode) path) by_path (Err place)
        → (k : ℕ) (d : FileRec) → k < length files → (get_or files k d).path ≡ path → ⊥
    no_path place found k d k_in is =
        let parted = found paths_searchable in
        let at = index.has_each k d k_in in
        let same : path_of files (get_or by_path at.0 (get_or files k d).inode) ≡ path = ap (path_of files) at.2 ∙ path_of-at files rise (get_or files k d).inode k d k_in refl ∙ is in
        elim (cases_lt at.0 place) [
          | inl before ↦ not_below_itself path
              (subst (λ (l : List ℕ). slice_cmp nat_cmp l path ≡ Less) same (parted.0 at.0 (get_or files k d).inode (omega arith) before))
          | inr from ↦ not_above_itself path
              (subst (λ (l : List ℕ). slice_cmp nat_cmp l path ≡ Greater) same (parted.1 at.0 (get_or files k d).inode from at.1))
        ]

    pub path_not_found : (place : ℕ) → IsBinarySearchResult (λ (inode : ℕ). slice_cmp nat_cmp (path_of files inode) path) by_path (Err place)
        → position (λ (file : FileRec). bytes_eq file.path path) files ≡ None
    path_not_found place found = position-none (λ (file : FileRec). bytes_eq file.path path) files
        (λ k d k_in. false_from_ne_true (bytes_eq (get_or files k d).path path)
        (λ passes. no_path place found k d k_in ((bytes_eq-Decides (get_or files k d).path path).0 passes)))

    -- a file of the path is listed where its inode has a place
    pub listed_at : (place : ℕ) → place < length by_path → ((e : ℕ) → slice_cmp nat_cmp (path_of files (get_or by_path place e)) path ≡ Equal) → file_at path files ≡ None → ⊥
    listed_at place place_in equal none =
        let at = path_at place 0 place_in equal in
        let found = position_of_path at.0 at.1 at.2 at.4 in
        let differs : None ≡ Some (at_path path files at.0 found).item = sym none ∙ file_at-some path files at.0 (at_path path files at.0 found) in
        cc

    -- and where it has none, the search ends where it goes
    pub place_for : (place : ℕ) → IsBinarySearchResult (λ (inode : ℕ). slice_cmp nat_cmp (path_of files inode) path) by_path (Err place) → IsPlaceFor path files by_path place
    place_for place found = found paths_searchable

  -- the inode at the place of a file's path is the file's
  pub inode_at_place : (i : ℕ) (file : FileRec) → slice_get files i ≡ Some file → (place : ℕ) → place < length by_path
      → ((e : ℕ) → slice_cmp nat_cmp (path_of files (get_or by_path place e)) file.path ≡ Equal) → slice_get by_path place ≡ Some file.inode
  inode_at_place i file is place place_in equal =
      let at = path_at file.path place 0 place_in equal in
      let here : (d : FileRec) → get_or files i d ≡ file = λ d. get_or_from_slice_get files i file d is in
      let same : at.0 ≡ i = one_path at.0 i at.1 at.2 (slice_get_within files i file is) (at.4 ∙ sym (ap (λ (f : FileRec). f.path) (here at.1))) in
      slice_get-get_or by_path place 0 place_in
      ∙ ap (λ (n : ℕ). let o : Option ℕ = Some n in o) (at.3 ∙ ap (λ (n : ℕ). (get_or files n at.1).inode) same ∙ ap (λ (f : FileRec). f.inode) (here at.1))

  -- two places of the index have two inodes
  one_entry : (a b d : ℕ) → a < length by_path → b < length by_path → get_or by_path a d ≡ get_or by_path b d → a ≡ b
  one_entry a b d a_in b_in same = one_place a b
      (λ below. not_below_itself (path_of files (get_or by_path a d))
      (subst (λ (n : ℕ). slice_cmp nat_cmp (path_of files (get_or by_path a d)) (path_of files n) ≡ Less) (sym same) (index.rises a b d below b_in)))
      (λ above. not_below_itself (path_of files (get_or by_path b d))
      (subst (λ (n : ℕ). slice_cmp nat_cmp (path_of files (get_or by_path b d)) (path_of files n) ≡ Less) same (index.rises b a d above a_in)))

-- ---- edits

-- a file that still stands somewhere has the path that it had
path_stays : (files new : List FileRec) → RiseByInode files → RiseByInode new → (inode k j : ℕ) (d : FileRec) → k < length files → j < length new
    → inode ≡ (get_or files k d).inode → (get_or new j d).inode ≡ (get_or files k d).inode → (get_or new j d).path ≡ (get_or files k d).path → path_of new inode ≡ path_of files inode
path_stays files new rise rise_new inode k j d k_in j_in is same_inode same_path =
    path_of-at new rise_new inode j d j_in (is ∙ sym same_inode) ∙ same_path ∙ sym (path_of-at files rise inode k d k_in is)

-- inodes whose paths are the same rise as they did
rises_alike : (files new : List FileRec) (by_path : List ℕ) → ((a d : ℕ) → a < length by_path → path_of new (get_or by_path a d) ≡ path_of files (get_or by_path a d))
    → AllPairs (λ (inode later : ℕ). slice_cmp nat_cmp (path_of files inode) (path_of files later) ≡ Less) by_path
    → AllPairs (λ (inode later : ℕ). slice_cmp nat_cmp (path_of new inode) (path_of new later) ≡ Less) by_path
rises_alike files new by_path alike rises a b d below b_in =
    ap (λ (l : List ℕ). slice_cmp nat_cmp l (path_of new (get_or by_path b d))) (alike a d (omega (arith, below, b_in)))
    ∙ ap (λ (l : List ℕ). slice_cmp nat_cmp (path_of files (get_or by_path a d)) l) (alike b d b_in)
    ∙ rises a b d below b_in

module _ (files : List FileRec) (by_path : List ℕ) (rise : RiseByInode files) (index : IsPathIndex files by_path) where
  -- a file goes over another one of its inode and its path
  module _ (i : ℕ) (new : FileRec) (inode : (d : FileRec) → new.inode ≡ (get_or files i d).inode) (path : (d : FileRec) → new.path ≡ (get_or files i d).path) where
    names : (k : ℕ) (d : FileRec) → k < length files
        → ((get_or (set files i new) k d).inode ≡ (get_or files k d).inode) × ((get_or (set files i new) k d).path ≡ (get_or files k d).path)
    names k d k_in = elim (cases_eq k i) [
      | inl same ↦
          let here : get_or (set files i new) k d ≡ new = subst (λ (n : ℕ). get_or (set files n new) k d ≡ new) same (get_or-set_same files k new d k_in) in
          let was : get_or files k d ≡ get_or files i d = ap (λ (n : ℕ). get_or files n d) same in (
            ap (λ (file : FileRec). file.inode) here ∙ inode d ∙ sym (ap (λ (file : FileRec). file.inode) was),
            ap (λ (file : FileRec). file.path) here ∙ path d ∙ sym (ap (λ (file : FileRec). file.path) was),
          )
      | inr differs ↦
          let here : get_or (set files i new) k d ≡ get_or files k d = get_or-set_other files i k new d differs in
          (ap (λ (file : FileRec). file.inode) here, ap (λ (file : FileRec). file.path) here)
    ]

    long : length (set files i new) ≡ length files
    long = length-set files i new

    pub rise-set : RiseByInode (set files i new)
    rise-set j k d below k_in =
        let k_in_files : k < length files = omega (arith, k_in, long) in
        omega (arith, (names j d (omega (arith, below, k_in_files))).0, (names k d k_in_files).0, rise j k d below k_in_files)

    pub index-set : IsPathIndex (set files i new) by_path
    index-set = record {
      has_each = λ k d k_in.
          let k_in_files : k < length files = omega (arith, k_in, long) in
          subst (λ (n : ℕ). Contains by_path n) (sym (names k d k_in_files).0) (index.has_each k d k_in_files);
      of_files = λ a d a_in.
          let of = index.of_files a d a_in in
          let there : of.0 < length (set files i new) = omega (arith, of.2, long) in (
            of.0,
            get_or (set files i new) of.0 of.1,
            there,
            get_or_default (set files i new) of.0 (get_or (set files i new) of.0 of.1) of.1 there,
            (names of.0 of.1 of.2).0 ∙ ap (λ (file : FileRec). file.inode) of.3 ∙ of.4,
          );
      rises = rises_alike files (set files i new) by_path
          (λ a d a_in.
          let of = index.of_files a d a_in in
          path_stays files (set files i new) rise rise-set (get_or by_path a d) of.0 of.0 of.1 of.2 (omega (arith, of.2, long))
          (sym of.4 ∙ sym (ap (λ (file : FileRec). file.inode) of.3)) (names of.0 of.1 of.2).0 (names of.0 of.1 of.2).1)
          index.rises;
    }

  -- a file of a path that none has goes behind the others, and its inode to the path's place in the index
  module _ (file : FileRec) (above : All (λ (other : FileRec). other.inode < file.inode) files) where
    pub rise-push : RiseByInode (files ++ file ∷ [])
    rise-push = all_pairs_push (λ (one later : FileRec). one.inode < later.inode) files file rise above

    at_end : (d : FileRec) → get_or (files ++ file ∷ []) (length files) d ≡ file
    at_end d = get_or_push files file d (length files) refl

    long_more : length (files ++ file ∷ []) ≡ length files + 1
    long_more = length_push files file

    module _ (place : ℕ) (le : place ≤ length by_path) (parted : IsPlaceFor file.path files by_path place) where
      there_still : (a d : ℕ) → a < length by_path → Any (λ (other : FileRec). other.inode ≡ get_or by_path a d) (files ++ file ∷ [])
      there_still a d a_in =
          let of = index.of_files a d a_in in
          (of.0, of.1, omega (arith, of.2, long_more), get_or_append_left files (file ∷ []) of.1 of.0 of.2 ∙ of.3, of.4)

      path_still : (a d : ℕ) → a < length by_path → path_of (files ++ file ∷ []) (get_or by_path a d) ≡ path_of files (get_or by_path a d)
      path_still a d a_in =
          let of = index.of_files a d a_in in
          let same : get_or (files ++ file ∷ []) of.0 of.1 ≡ get_or files of.0 of.1 = get_or_append_left files (file ∷ []) of.1 of.0 of.2 in
          path_stays files (files ++ file ∷ []) rise rise-push (get_or by_path a d) of.0 of.0 of.1 of.2 (omega (arith, of.2, long_more))
          (sym of.4 ∙ sym (ap (λ (other : FileRec). other.inode) of.3)) (ap (λ (other : FileRec). other.inode) same) (ap (λ (other : FileRec). other.path) same)

      new_path : path_of (files ++ file ∷ []) file.inode ≡ file.path
      new_path = path_of-at (files ++ file ∷ []) rise-push file.inode (length files) file (omega (arith, long_more)) (sym (ap (λ (other : FileRec). other.inode) (at_end file)))
          ∙ ap (λ (other : FileRec). other.path) (at_end file)

      pub index-push : IsPathIndex (files ++ file ∷ []) (insert by_path place file.inode)
      index-push = record {
        has_each = All-push (λ (other : FileRec). Contains (insert by_path place file.inode) other.inode) files file
            (λ k d k_in. contains-insert by_path place file.inode (get_or files k d).inode le (index.has_each k d k_in))
            (contains-inserted by_path place file.inode le);
        of_files = λ a d a_in. behind_insert by_path place file.inode le (λ (inode : ℕ). Any (λ (other : FileRec). other.inode ≡ inode) (files ++ file ∷ [])) a d a_in
            (λ below. there_still a d (omega (arith, below, le)))
            (λ at. (length files, file, omega (arith, long_more), at_end file, refl))
            (λ j is from within. there_still j d within);
        rises = pairs-insert (λ (inode later : ℕ). slice_cmp nat_cmp (path_of (files ++ file ∷ []) inode) (path_of (files ++ file ∷ []) later) ≡ Less) by_path place file.inode le
            (rises_alike files (files ++ file ∷ []) by_path path_still index.rises)
            (λ k d below.
            ap (λ (l : List ℕ). slice_cmp nat_cmp l (path_of (files ++ file ∷ []) file.inode)) (path_still k d (omega (arith, below, le)))
            ∙ ap (λ (l : List ℕ). slice_cmp nat_cmp (path_of files (get_or by_path k d)) l) new_path
            ∙ parted.0 k d (omega arith) below)
            (λ k d from k_in.
            ap (λ (l : List ℕ). slice_cmp nat_cmp l (path_of (files ++ file ∷ []) (get_or by_path k d))) new_path
            ∙ ap (λ (l : List ℕ). slice_cmp nat_cmp file.path l) (path_still k d k_in)
            ∙ below_from_above (path_of files (get_or by_path k d)) file.path (parted.1 k d from k_in));
      }

  -- a file goes, and its inode from the index
  module _ (i : ℕ) (i_in : i < length files) where
    pub rise-remove : RiseByInode (remove files i)
    rise-remove = all_pairs_remove (λ (one later : FileRec). one.inode < later.inode) files i i_in rise

    module _ (place : ℕ) (place_in : place < length by_path) (is : (d : ℕ) (e : FileRec) → get_or by_path place d ≡ (get_or files i e).inode) where
      kept : (a d : ℕ) → a < length by_path → (a ≡ place → ⊥)
          → Any (λ (file : FileRec). file.inode ≡ get_or by_path a d) (remove files i) × (path_of (remove files i) (get_or by_path a d) ≡ path_of files (get_or by_path a d))
      kept a d a_in differs =
          let of = index.of_files a d a_in in
          let here : get_or by_path a d ≡ (get_or files of.0 of.1).inode = sym of.4 ∙ sym (ap (λ (file : FileRec). file.inode) of.3) in
          let other : of.0 ≡ i → ⊥ = λ same. differs (one_entry files by_path rise index a place d a_in place_in
          (here ∙ ap (λ (n : ℕ). (get_or files n of.1).inode) same ∙ sym (is d of.1))) in
          let still = still_there files i of.0 i_in of.2 other in (
            (still.0, of.1, still.1, still.2 of.1 ∙ of.3, of.4),
            path_stays files (remove files i) rise rise-remove (get_or by_path a d) of.0 still.0 of.1 of.2 still.1 here
                (ap (λ (file : FileRec). file.inode) (still.2 of.1)) (ap (λ (file : FileRec). file.path) (still.2 of.1)),
          )

      pub index-remove : IsPathIndex (remove files i) (remove by_path place)
      index-remove = record {
        has_each = λ k d k_in. behind_remove files i (λ (file : FileRec). Contains (remove by_path place) file.inode) k d i_in k_in
            (λ j j_in differs.
            let at = index.has_each j d j_in in
            let other : at.0 ≡ place → ⊥ = λ same. differs (one_inode files rise j i d j_in i_in
            (sym at.2 ∙ ap (λ (n : ℕ). get_or by_path n (get_or files j d).inode) same ∙ is (get_or files j d).inode d)) in
            let still = still_there by_path place at.0 place_in at.1 other in
            (still.0, still.1, still.2 (get_or files j d).inode ∙ at.2));
        of_files = λ a d a_in. behind_remove by_path place (λ (inode : ℕ). Any (λ (file : FileRec). file.inode ≡ inode) (remove files i)) a d place_in a_in
            (λ j j_in differs. (kept j d j_in differs).0);
        rises = rises_alike files (remove files i) (remove by_path place)
            (λ a d a_in. behind_remove by_path place (λ (inode : ℕ). path_of (remove files i) inode ≡ path_of files inode) a d place_in a_in (λ j j_in differs. (kept j d j_in differs).1))
            (all_pairs_remove (λ (inode later : ℕ). slice_cmp nat_cmp (path_of files inode) (path_of files later) ≡ Less) by_path place place_in index.rises);
      }
