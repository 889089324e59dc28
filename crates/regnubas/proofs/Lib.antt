mod Versions
