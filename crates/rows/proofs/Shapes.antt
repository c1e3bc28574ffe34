pub use Rattle.rows.specs.Shapes.{Shape, number, run, ◌then◌, width, Value, Fits, read, write, length_write, read_written, fits_read, write_read, bytes_write, codec_of, Shaped, laws, bytes_encode}
