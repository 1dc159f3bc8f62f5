-- The formulas of MacDonald, Vosko and Coleridge (1979), over any operations: the quotients f(n, m), the number n of a tetrahedron's states below omega, the density g at omega, and the shares J in n and I in g of one vertex. In j and i the first number is the range of omega among the sorted vertices (1 from the first vertex to the second, 2 to the third, 3 to the last), the second the vertex 0 to 3.
use Rattle.std.specs.Prelude.{ℕ, zero, suc, Bool, cond}
use Rattle.tetrahedron_paper.specs.Operations.{Operations}

module _ (o : Operations) where
  infixl 6 ◌⊕◌ ◌⊖◌
  infixl 7 ◌⊗◌ ◌⊘◌
  open o use {C, none, one, three, four, quarter, plus as ◌⊕◌, minus as ◌⊖◌, times as ◌⊗◌, over as ◌⊘◌, apart, guard}

  -- where omega lies on the way from the value m to the value n: 0 at m, 1 at n
  unfoldable pub fraction : C → C → C → C
  fraction w n m = apart (n ⊖ m) ((w ⊖ m) ⊘ (n ⊖ m))

  -- f(n, m): where omega lies on the way from vertex m to vertex n of the sorted four
  abbrev pub f : ℕ → ℕ → C → (ℕ → C) → C
  f n m w v = fraction w (v n) (v m)

  -- the density g between the first vertex and the second: the cut is a triangle; span is the last vertex less the first
  abbrev pub g1 : C → C → C → C
  g1 span f10 f20 = three ⊗ f10 ⊗ f20 ⊘ span

  -- the density g between the second vertex and the third: the cut is two triangles
  abbrev pub g2 : C → C → C → C → C → C
  g2 span f12 f20 f21 f13 = three ⊘ span ⊗ (f12 ⊗ f20 ⊕ f21 ⊗ f13)

  -- the density g between the third vertex and the last: the cut is a triangle
  abbrev pub g3 : C → C → C → C
  g3 span f13 f23 = three ⊗ f13 ⊗ f23 ⊘ span

  -- the share of the first vertex between the first and the second: the mean over the triangle's corners, on the edges to the other three
  abbrev pub i10 : C → C → C → C
  i10 f01 f02 f03 = (f01 ⊕ f02 ⊕ f03) ⊘ three

  -- the share of the second vertex there: it lies on one edge that the triangle cuts
  abbrev pub i11 : C → C
  i11 f10 = f10 ⊘ three

  -- the share of the third vertex there
  abbrev pub i12 : C → C
  i12 f20 = f20 ⊘ three

  -- the share of the last vertex there
  abbrev pub i13 : C → C
  i13 f30 = f30 ⊘ three

  -- the share of the first vertex between the second and the third: the means over the two triangles, weighed by their areas; 0 where these vanish
  abbrev pub i20 : C → C → C → C → C → C → C
  i20 f03 f02 f12 f20 f21 f13 =
      let f12-20 = f12 ⊗ f20 in
      let g = f12-20 ⊕ f21 ⊗ f13 in
      guard g ((f03 ⊕ f02 ⊗ f12-20 ⊘ g) ⊘ three)

  -- the share of the second vertex there
  abbrev pub i21 : C → C → C → C → C
  i21 f12 f13 f20 f21 =
      let f13-21 = f13 ⊗ f21 in
      let g = f12 ⊗ f20 ⊕ f13-21 in
      guard g ((f12 ⊕ f13 ⊗ f13-21 ⊘ g) ⊘ three)

  -- the share of the third vertex there
  abbrev pub i22 : C → C → C → C → C
  i22 f12 f20 f21 f13 =
      let f12-20 = f12 ⊗ f20 in
      let g = f12-20 ⊕ f21 ⊗ f13 in
      guard g ((f21 ⊕ f20 ⊗ f12-20 ⊘ g) ⊘ three)

  -- the share of the last vertex there
  abbrev pub i23 : C → C → C → C → C → C → C
  i23 f30 f31 f12 f20 f21 f13 =
      let f13-21 = f13 ⊗ f21 in
      let g = f12 ⊗ f20 ⊕ f13-21 in
      guard g ((f30 ⊕ f31 ⊗ f13-21 ⊘ g) ⊘ three)

  -- the share of the first vertex between the third and the last: it lies on one edge that the triangle cuts
  abbrev pub i30 : C → C
  i30 f03 = f03 ⊘ three

  -- the share of the second vertex there
  abbrev pub i31 : C → C
  i31 f13 = f13 ⊘ three

  -- the share of the third vertex there
  abbrev pub i32 : C → C
  i32 f23 = f23 ⊘ three

  -- the share of the last vertex there: the mean over the triangle's corners
  abbrev pub i33 : C → C → C → C
  i33 f30 f31 f32 = (f30 ⊕ f31 ⊕ f32) ⊘ three

  -- the number n between the first vertex and the second: the small tetrahedron at the first, as a part of the whole
  abbrev pub n1 : C → C → C → C
  n1 f10 f20 f30 = f10 ⊗ f20 ⊗ f30

  -- the number n between the second vertex and the third: three tetrahedra
  abbrev pub n2 : C → C → C → C → C → C → C
  n2 f31 f21 f30 f13 f20 f12 = f31 ⊗ f21 ⊕ f30 ⊗ f13 ⊗ f21 ⊕ f30 ⊗ f20 ⊗ f12

  -- the number n between the third vertex and the last: all but the small tetrahedron at the last
  abbrev pub n3 : C → C → C → C
  n3 f03 f13 f23 = one ⊖ f03 ⊗ f13 ⊗ f23

  -- the share of the first vertex between the first and the second: the mean over the small tetrahedron's corners
  abbrev pub j10 : C → C → C → C
  j10 f01 f02 f03 = (one ⊕ f01 ⊕ f02 ⊕ f03) ⊘ four

  -- the share of the second vertex there: it lies on one edge that is cut
  abbrev pub j11 : C → C
  j11 f10 = f10 ⊘ four

  -- the share of the third vertex there
  abbrev pub j12 : C → C
  j12 f20 = f20 ⊘ four

  -- the share of the last vertex there
  abbrev pub j13 : C → C
  j13 f30 = f30 ⊘ four

  -- four times the states of the first vertex between the second and the third: a sum over the corners of the three tetrahedra, weighed by their numbers
  abbrev pub s20 : C → C → C → C → C → C → C → C → C
  s20 f31 f21 f30 f13 f03 f20 f12 f02 = f31 ⊗ f21 ⊕ f30 ⊗ f13 ⊗ f21 ⊗ (one ⊕ f03) ⊕ f30 ⊗ f20 ⊗ f12 ⊗ (one ⊕ f03 ⊕ f02)

  -- four times the states of the second vertex there
  abbrev pub s21 : C → C → C → C → C → C → C
  s21 f31 f21 f13 f12 f30 f20 = f31 ⊗ f21 ⊗ (one ⊕ f13 ⊕ f12) ⊕ f30 ⊗ f13 ⊗ f21 ⊗ (f13 ⊕ f12) ⊕ f30 ⊗ f20 ⊗ f12 ⊗ f12

  -- four times the states of the third vertex there
  abbrev pub s22 : C → C → C → C → C → C → C
  s22 f31 f21 f30 f13 f20 f12 = f31 ⊗ f21 ⊗ f21 ⊕ f30 ⊗ f13 ⊗ f21 ⊗ f21 ⊕ f30 ⊗ f20 ⊗ f12 ⊗ (f21 ⊕ f20)

  -- four times the states of the last vertex there
  abbrev pub s23 : C → C → C → C → C → C → C
  s23 f31 f21 f30 f13 f20 f12 = f31 ⊗ f21 ⊗ f31 ⊕ f30 ⊗ f13 ⊗ f21 ⊗ (f31 ⊕ f30) ⊕ f30 ⊗ f20 ⊗ f12 ⊗ f30

  -- four times the states of the first vertex between the third and the last: the whole less the small tetrahedron at the last
  abbrev pub s30 : C → C → C → C
  s30 f03 f13 f23 = one ⊖ f03 ⊗ f03 ⊗ f13 ⊗ f23

  -- four times the states of the second vertex there
  abbrev pub s31 : C → C → C → C
  s31 f03 f13 f23 = one ⊖ f03 ⊗ f13 ⊗ f13 ⊗ f23

  -- four times the states of the third vertex there
  abbrev pub s32 : C → C → C → C
  s32 f03 f13 f23 = one ⊖ f03 ⊗ f13 ⊗ f23 ⊗ f23

  -- four times the states of the last vertex there
  abbrev pub s33 : C → C → C → C → C → C → C
  s33 f03 f13 f23 f30 f31 f32 = one ⊖ f03 ⊗ f13 ⊗ f23 ⊗ (one ⊕ f30 ⊕ f31 ⊕ f32)

  -- the share of the first vertex between the second and the third: its states by the number n of all; 0 where n vanishes
  abbrev pub j20 : C → C → C → C → C → C → C → C → C → C
  j20 n f31 f21 f30 f13 f03 f20 f12 f02 = guard n (s20 f31 f21 f30 f13 f03 f20 f12 f02 ⊘ four ⊘ n)

  -- the share of the second vertex there
  abbrev pub j21 : C → C → C → C → C → C → C → C
  j21 n f31 f21 f13 f12 f30 f20 = guard n (s21 f31 f21 f13 f12 f30 f20 ⊘ four ⊘ n)

  -- the share of the third vertex there
  abbrev pub j22 : C → C → C → C → C → C → C → C
  j22 n f31 f21 f30 f13 f20 f12 = guard n (s22 f31 f21 f30 f13 f20 f12 ⊘ four ⊘ n)

  -- the share of the last vertex there
  abbrev pub j23 : C → C → C → C → C → C → C → C
  j23 n f31 f21 f30 f13 f20 f12 = guard n (s23 f31 f21 f30 f13 f20 f12 ⊘ four ⊘ n)

  -- the share of the first vertex between the third and the last: the whole less the small tetrahedron at the last, by the number n; 0 where n vanishes
  abbrev pub j30 : C → C → C → C → C
  j30 n f03 f13 f23 = guard n (s30 f03 f13 f23 ⊘ four ⊘ n)

  -- the share of the second vertex there
  abbrev pub j31 : C → C → C → C → C
  j31 n f03 f13 f23 = guard n (s31 f03 f13 f23 ⊘ four ⊘ n)

  -- the share of the third vertex there
  abbrev pub j32 : C → C → C → C → C
  j32 n f03 f13 f23 = guard n (s32 f03 f13 f23 ⊘ four ⊘ n)

  -- the share of the last vertex there
  abbrev pub j33 : C → C → C → C → C → C → C → C
  j33 n f03 f13 f23 f30 f31 f32 = guard n (s33 f03 f13 f23 f30 f31 f32 ⊘ four ⊘ n)

  -- one of four by a place 0 to 3
  abbrev pub by_place : ℕ → C → C → C → C → C
  by_place zero a b c d = a
  by_place (suc zero) a b c d = b
  by_place (suc (suc zero)) a b c d = c
  by_place (suc (suc (suc n))) a b c d = d

  -- one of five by a range 0 to 4
  abbrev pub by_branch : ℕ → C → C → C → C → C → C
  by_branch zero a b c d e = a
  by_branch (suc zero) a b c d e = b
  by_branch (suc (suc zero)) a b c d e = c
  by_branch (suc (suc (suc zero))) a b c d e = d
  by_branch (suc (suc (suc (suc n)))) a b c d e = e

  -- the sum over the four vertices
  abbrev pub total : (ℕ → C) → C
  total s = s 0 ⊕ s 1 ⊕ s 2 ⊕ s 3

  -- the twelve quotients f(n, m)
  module _ (f : ℕ → ℕ → C) where
    -- the density g of the tetrahedron at omega, by the range: none outside; span is the last vertex less the first
    abbrev pub g_by : C → ℕ → C
    g_by span branch = by_branch branch none (g1 span (f 1 0) (f 2 0)) (g2 span (f 1 2) (f 2 0) (f 2 1) (f 1 3)) (g3 span (f 1 3) (f 2 3)) none

    -- the share I of the vertex at a place, by the range
    abbrev pub i_by : ℕ → ℕ → C
    i_by branch place =
        by_branch branch none
        (by_place place (i10 (f 0 1) (f 0 2) (f 0 3)) (i11 (f 1 0)) (i12 (f 2 0)) (i13 (f 3 0)))
        (by_place place
        (i20 (f 0 3) (f 0 2) (f 1 2) (f 2 0) (f 2 1) (f 1 3))
        (i21 (f 1 2) (f 1 3) (f 2 0) (f 2 1))
        (i22 (f 1 2) (f 2 0) (f 2 1) (f 1 3))
        (i23 (f 3 0) (f 3 1) (f 1 2) (f 2 0) (f 2 1) (f 1 3)))
        (by_place place (i30 (f 0 3)) (i31 (f 1 3)) (i32 (f 2 3)) (i33 (f 3 0) (f 3 1) (f 3 2)))
        none

    -- the number n of the tetrahedron's states below omega, by the range: none below the first vertex, all above the last
    abbrev pub n_by : ℕ → C
    n_by branch = by_branch branch none (n1 (f 1 0) (f 2 0) (f 3 0)) (n2 (f 3 1) (f 2 1) (f 3 0) (f 1 3) (f 2 0) (f 1 2)) (n3 (f 0 3) (f 1 3) (f 2 3)) one

    -- four times the states of the vertex at a place, in the two ranges whose share J is a quotient by n
    abbrev pub s_by : ℕ → ℕ → C
    s_by branch place =
        by_branch branch none none
        (by_place place
        (s20 (f 3 1) (f 2 1) (f 3 0) (f 1 3) (f 0 3) (f 2 0) (f 1 2) (f 0 2))
        (s21 (f 3 1) (f 2 1) (f 1 3) (f 1 2) (f 3 0) (f 2 0))
        (s22 (f 3 1) (f 2 1) (f 3 0) (f 1 3) (f 2 0) (f 1 2))
        (s23 (f 3 1) (f 2 1) (f 3 0) (f 1 3) (f 2 0) (f 1 2)))
        (by_place place (s30 (f 0 3) (f 1 3) (f 2 3)) (s31 (f 0 3) (f 1 3) (f 2 3)) (s32 (f 0 3) (f 1 3) (f 2 3)) (s33 (f 0 3) (f 1 3) (f 2 3) (f 3 0) (f 3 1) (f 3 2)))
        none

    -- the share J of the vertex at a place, by the range: a quarter above the last
    abbrev pub j_by : ℕ → ℕ → C
    j_by branch place =
        by_branch branch none
        (by_place place (j10 (f 0 1) (f 0 2) (f 0 3)) (j11 (f 1 0)) (j12 (f 2 0)) (j13 (f 3 0)))
        (by_place place
        (j20 (n_by 2) (f 3 1) (f 2 1) (f 3 0) (f 1 3) (f 0 3) (f 2 0) (f 1 2) (f 0 2))
        (j21 (n_by 2) (f 3 1) (f 2 1) (f 1 3) (f 1 2) (f 3 0) (f 2 0))
        (j22 (n_by 2) (f 3 1) (f 2 1) (f 3 0) (f 1 3) (f 2 0) (f 1 2))
        (j23 (n_by 2) (f 3 1) (f 2 1) (f 3 0) (f 1 3) (f 2 0) (f 1 2)))
        (by_place place
        (j30 (n_by 3) (f 0 3) (f 1 3) (f 2 3))
        (j31 (n_by 3) (f 0 3) (f 1 3) (f 2 3))
        (j32 (n_by 3) (f 0 3) (f 1 3) (f 2 3))
        (j33 (n_by 3) (f 0 3) (f 1 3) (f 2 3) (f 3 0) (f 3 1) (f 3 2)))
        quarter

  -- omega and the sorted vertices
  module _ (w : C) (v : ℕ → C) where
    unfoldable pub g_of : ℕ → C
    g_of = g_by (λ n m. f n m w v) (v 3 ⊖ v 0)

    unfoldable pub i_of : ℕ → ℕ → C
    i_of = i_by (λ n m. f n m w v)

    unfoldable pub n_of : ℕ → C
    n_of = n_by (λ n m. f n m w v)

    unfoldable pub j_of : ℕ → ℕ → C
    j_of = j_by (λ n m. f n m w v)

    -- the weight I times g of a vertex in a tetrahedron
    abbrev pub density_share : ℕ → ℕ → C
    density_share branch place = i_of branch place ⊗ g_of branch

    -- the weight J times n of a vertex in a tetrahedron
    abbrev pub states_share : ℕ → ℕ → C
    states_share branch place = j_of branch place ⊗ n_of branch

-- the range of omega among the sorted vertices, by a test of the order: 0 below the first, 1 to 3 between neighbours, 4 above the last; omega equal to a vertex is in the range above
unfoldable pub branch_of : {C : Type 0} → (C → C → Bool) → C → (ℕ → C) → ℕ
branch_of less w v = cond (less w (v 0)) 0 (cond (less w (v 1)) 1 (cond (less w (v 2)) 2 (cond (less w (v 3)) 3 4)))
