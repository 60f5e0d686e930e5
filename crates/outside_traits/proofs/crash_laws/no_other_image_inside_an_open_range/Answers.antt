use Rattle.outside_traits.proofs.ImageLaws.{image-inside, image-opens, open-written, open-past}
use Rattle.outside_traits.proofs.crash_laws.no_other_image_inside_an_open_range.Goals as goal

pub returns : goal.returns
returns c = record {
  law = λ at n s next image range opens. (image-inside at n s next range opens image, image-opens at n s next opens image);
  written = λ at n from m s next opens lower upper. open-written at n s next opens from m lower upper;
  past = open-past;
}
