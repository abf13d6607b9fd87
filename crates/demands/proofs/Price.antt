-- The tests of a bin are at most twice the tiles listed and the rows listed: those of an accepted one are those that its shape takes, and a refused one tells
-- none.
use mathlib.Core.Path.{◌≡◌, ap, subst}
use mathlib.Core.List.{List}
use Prim.Native.Nat.{ℕ}
use native.Mathlib.Omega.{arith}
use lib.ListN.{length}
use Rattle.shape.specs.declared.Shape.{Shape}
use Rattle.walk.proofs.Touched.{touched_tiles_unique}
use Rattle.stepping.proofs.Price.{tests_price}
use Rattle.pool.specs.Words.{layout_of}
use Rattle.pool.specs.Sound.{Sound, screen_of}
use Rattle.calls.specs.Told.{Binned}
use Rattle.calls.specs.Tables.{refused_bin, PlaceSays, BinSays, BinPixelsSays}
use Rattle.demands.specs.Price.{Priced, BinPrice, BinPixelsPrice}

refused_priced : (p : List ℕ) (shape : Shape) {a : Binned} {n : ℕ} → a ≡ refused_bin n → Priced p shape a
refused_priced p shape e ts rs T R = omega (arith, ap (λ (b : Binned). b.tests) e)

place_priced : {p : List ℕ} {shape : Shape} {id : ℕ} {a : Binned} {q : List ℕ} → Sound (layout_of p) p → PlaceSays p shape id a q → Priced p shape a
place_priced {p} {shape} S (PlaceSays.no_room us T l e f) = refused_priced p shape e
place_priced {p} {shape} S (PlaceSays.done us T l flag F tests C e f) = λ ts rs T' R.
    omega
    (arith, ap (λ (b : Binned). b.tests) e, ap (λ (b : Binned). b.tiles) e, ap length (touched_tiles_unique T T'), tests_price (screen_of p) S.opened.screen shape C T' R)

pub bin_price : BinPrice
bin_price p shape id a q (BinSays.damaged n e f) = refused_priced p shape e
bin_price p shape id a q (BinSays.bad_id S i e f) = refused_priced p shape e
bin_price p shape id a q (BinSays.out_of_range S i o e f) = refused_priced p shape e
bin_price p shape id a q (BinSays.placed S i o w) = place_priced S w

pub bin_pixels_price : BinPixelsPrice
bin_pixels_price p shape id a q (BinPixelsSays.damaged n e f) whole o = refused_priced p whole e
bin_pixels_price p shape id a q (BinPixelsSays.bad_id S i e f) whole o = refused_priced p whole e
bin_pixels_price p shape id a q (BinPixelsSays.offence S i n o e f) whole o' = refused_priced p whole e
bin_pixels_price p shape id a q (BinPixelsSays.placed S i whole o w) whole' o' =
    let same : whole ≡ whole' = cc in
    subst (λ (s : Shape). Priced p s a) same (place_priced S w)
